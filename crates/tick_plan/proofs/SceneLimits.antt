-- The waits of a scene as its limits are chosen.
use Rattle.std.proofs.Common.{◌≡◌, ◌≢◌, ℕ, zero, suc, ◌+◌, ◌*◌, ◌<◌, ℤ, pos, ◌+ℤ◌, ◌-ℤ◌, List, [], ◌∷◌, ◌++◌, length, get_or, set, Option, None, Some, refl, ap, sym, ◌∙◌, subst, arith, ⊎_elim, get_or-set_same, get_or-set_other}
use Rattle.std.proofs.lemmas.Int.{ints}
use Rattle.std.proofs.lemmas.Bool.{cases_eq}
use Rattle.std.proofs.lemmas.List.{append-nil}
use Rattle.std.proofs.lemmas.List.Elements.{All-append, All-contains, All-cons, All-nil, All-weaker, Contains-append_left, Contains-append_right, Contains-get_or, Contains-push}
use Rattle.std.specs.List.{All, Contains}
use Rattle.scene_model.specs.Clocks.{tick}
use Rattle.scene_model.specs.Cover.{AllCovered, AreAmong, HasUncovered}
use Rattle.scene_model.specs.Faults.{IsFaultless}
use Rattle.scene_model.specs.Scenes.{app_at, sender, receiver}
use Rattle.scene_model.specs.Waits.{Limits, block_wait, room_wait, rounded, waits, waits_of}
use Rattle.scene_model.specs.declared.scene.AppDecl.{AppDecl}
use Rattle.scene_model.specs.declared.scene.Scene.{Scene}
use Rattle.scene_model.specs.declared.wait.Wait.{Wait}
use Rattle.scene_model.specs.declared.wait.WaitKind.TheVariants.{ForRoom}
use Rattle.scene_model.proofs.Bounds.{timed_at}
use Rattle.scene_model.proofs.Cycles.{HasAll, All-among, AllCovered-fewer, HasUncovered-more}
use Rattle.scene_model.proofs.SceneWaits.{limit_of, Contains-waits, All-waits, block_among, room_among}
use Rattle.scene_model.proofs.WaitBounds.{room_within}
use Rattle.tick_plan.specs.Choices.{AreSame, IsChosen, IsLeastAt, room_chosen}
use Rattle.tick_plan.specs.Room.{room_under, IsRoomWait}

-- ---- the same waits

HasAll-among : (more fewer : List Wait) → AreAmong more fewer → HasAll more fewer
HasAll-among more fewer among = λ w in'. All-contains (Contains more) fewer w among in'

among_from : (more fewer : List Wait) → HasAll more fewer → AreAmong more fewer
among_from more fewer has = λ k d lt. has (get_or fewer k d) (Contains-get_or fewer k d lt)

AreSame-from : (some others : List Wait) → HasAll others some → HasAll some others → AreSame some others
AreSame-from some others there here = record { among = among_from others some there; contained = among_from some others here }

AreSame-trans : (xs ys zs : List Wait) → AreSame xs ys → AreSame ys zs → AreSame xs zs
AreSame-trans xs ys zs h i = record { among = All-among (Contains zs) ys xs i.among h.among; contained = All-among (Contains xs) ys zs h.contained i.contained }

pub AreSame-refl : (ws : List Wait) → AreSame ws ws
AreSame-refl ws = AreSame-from ws ws (λ w h. h) (λ w h. h)

among_append : (more fewer ends : List Wait) → AreAmong more fewer → AreAmong (more ++ ends) (fewer ++ ends)
among_append more fewer ends among =
    All-append (Contains (more ++ ends)) fewer ends (All-weaker (Contains more) (Contains (more ++ ends)) (λ w in'. Contains-append_left more ends w in') fewer among)
    (among_from (more ++ ends) ends (λ w in'. Contains-append_right more ends w in'))

AreSame-append : (xs ys ends : List Wait) → AreSame xs ys → AreSame (xs ++ ends) (ys ++ ends)
AreSame-append xs ys ends h = record { among = among_append ys xs ends h.among; contained = among_append xs ys ends h.contained }

-- what holds of each of them
pub AreSame-All : (P : Wait → Type 0) (some others : List Wait) → AreSame some others → All P some → All P others
AreSame-All P some others h each = All-among P some others each h.contained

pub AreSame-AllCovered : (some others : List Wait) → AreSame some others → AllCovered some → AllCovered others
AreSame-AllCovered some others h = AllCovered-fewer some others (HasAll-among some others h.contained)

pub AreSame-HasUncovered : (some others : List Wait) → AreSame some others → HasUncovered some → HasUncovered others
AreSame-HasUncovered some others h = HasUncovered-more others some (HasAll-among others some h.among)

-- a least limit is one over whatever list of them
pub IsLeastAt-same : (scene : Scene) (some others : List Wait) (c m : ℕ) → AreSame some others → IsLeastAt scene some c m → IsLeastAt scene others c m
IsLeastAt-same scene some others c m h least = record {
  some = least.some;
  covered = AreSame-AllCovered (some ++ room_wait scene c m ∷ []) (others ++ room_wait scene c m ∷ []) (AreSame-append some others (room_wait scene c m ∷ []) h) least.covered;
  least = λ less from below.
      AreSame-HasUncovered (some ++ room_wait scene c less ∷ []) (others ++ room_wait scene c less ∷ []) (AreSame-append some others (room_wait scene c less ∷ []) h) (least.least less from below);
}

-- ---- the waits with one limit more

-- the limits with m at connection c
abbrev pub with_limit : Limits → ℕ → ℕ → Limits
with_limit limits c m = set limits c (Some m)

All-one : (P : Wait → Type 0) (w : Wait) → P w → All P (w ∷ [])
All-one P w h = All-cons P w [] h (All-nil P)

-- each wait of a connection is one of the scene's
own_among : (scene : Scene) (limits : Limits) (c : ℕ) → c < length scene.links → All (Contains (waits scene limits)) (waits_of scene c (limit_of limits c))
own_among scene limits c link = λ k d lt. Contains-waits scene limits c (get_or (waits_of scene c (limit_of limits c)) k d) link (Contains-get_or (waits_of scene c (limit_of limits c)) k d lt)

-- they are those without it and the wait for room
HasAll-with_room : (scene : Scene) (limits : Limits) (c m : ℕ) → c < length scene.links → c < length limits →
    HasAll (waits scene limits ++ room_wait scene c m ∷ []) (waits scene (with_limit limits c m))
HasAll-with_room scene limits c m link lt =
    let all = waits scene limits in
    let room = room_wait scene c m in
    let more : List Wait = all ++ room ∷ [] in
    let each : All (Contains more) (waits scene (with_limit limits c m)) = All-waits (Contains more) scene (with_limit limits c m) (λ d stands.
    let P : Option ℕ → Type 0 = λ limit. All (Contains more) (waits_of scene d limit) in
    let left : (w : Wait) → Contains all w → Contains more w = λ w in'. Contains-append_left all (room ∷ []) w in' in
    ⊎_elim
    (λ (same : d ≡ c).
    let e : get_or (with_limit limits c m) d None ≡ Some m = rw same (get_or-set_same limits c (Some m) None lt) in
    let Q : ℕ → Type 0 = λ x. All (Contains more) (block_wait scene x ∷ room_wait scene x m ∷ []) in
    let two : Q d =
    subst Q (sym same) (All-cons (Contains more) (block_wait scene c) (room ∷ []) (left (block_wait scene c) (block_among scene limits c link)) (All-one (Contains more) room (Contains-push all room))) in
    subst P (sym e) two)
    (λ (other : d ≢ c).
    let e : get_or (with_limit limits c m) d None ≡ get_or limits d None = get_or-set_other limits c d (Some m) None other in
    subst P (sym e) (All-weaker (Contains all) (Contains more) left (waits_of scene d (limit_of limits d)) (own_among scene limits d stands)))
    (cases_eq d c)) in
    λ w in'. All-contains (Contains more) (waits scene (with_limit limits c m)) w each in'

HasAll-with_limit : (scene : Scene) (limits : Limits) (c m : ℕ) → c < length scene.links → c < length limits → get_or limits c None ≡ None →
    HasAll (waits scene (with_limit limits c m)) (waits scene limits ++ room_wait scene c m ∷ [])
HasAll-with_limit scene limits c m link lt none =
    let more = with_limit limits c m in
    let has = Contains (waits scene more) in
    let here : get_or more c None ≡ Some m = get_or-set_same limits c (Some m) None lt in
    let old : All has (waits scene limits) = All-waits has scene limits (λ d stands.
    let P : Option ℕ → Type 0 = λ limit. All has (waits_of scene d limit) in
    ⊎_elim
    (λ (same : d ≡ c).
    let e : get_or limits d None ≡ None = rw same none in
    subst P (sym e) (All-one has (block_wait scene d) (block_among scene more d stands)))
    (λ (other : d ≢ c).
    let e : get_or more d None ≡ get_or limits d None = get_or-set_other limits c d (Some m) None other in
    subst P e (own_among scene more d stands))
    (cases_eq d c)) in
    let both : All has (waits scene limits ++ room_wait scene c m ∷ []) =
    All-append has (waits scene limits) (room_wait scene c m ∷ []) old (All-one has (room_wait scene c m) (room_among scene more c m link here)) in
    λ w in'. All-contains has (waits scene limits ++ room_wait scene c m ∷ []) w both in'

pub AreSame-with_room : (scene : Scene) (limits : Limits) (c m : ℕ) → c < length scene.links → c < length limits → get_or limits c None ≡ None →
    AreSame (waits scene limits ++ room_wait scene c m ∷ []) (waits scene (with_limit limits c m))
AreSame-with_room scene limits c m link lt none =
    AreSame-from (waits scene limits ++ room_wait scene c m ∷ []) (waits scene (with_limit limits c m)) (HasAll-with_limit scene limits c m link lt none) (HasAll-with_room scene limits c m link lt)

-- ---- the wait for room of a connection

-- from its wait under a limit of 0
pub room_under-is : (scene : Scene) (c m step : ℕ) → step ≡ tick scene (sender scene c) →
    room_under (record { without_room = room_wait scene c 0; step = step }) m ≡ room_wait scene c m
unfolding room_wait
room_under-is scene c m step is =
    let send = tick scene (sender scene c) in
    let receive = tick scene (receiver scene c) in
    let W : ℤ → Wait = λ a. record { waiter = sender scene c; awaited = receiver scene c; link = c; kind = ForRoom; allowance = a; burden = pos 0 } in
    let e : (pos ((0 + 1) * send + receive) -ℤ rounded scene c) +ℤ pos (m * step) ≡ pos ((m + 1) * send + receive) -ℤ rounded scene c = rw is (omega (arith, ints)) in
    ap W e

tick_is : (scene : Scene) (a : ℕ) → (app_at scene a).tick ≡ tick scene a
unfolding tick
tick_is scene a = refl

pub step_is : (scene : Scene) (c step : ℕ) (app : AppDecl) → step ≡ app.tick → app ≡ app_at scene (sender scene c) → step ≡ tick scene (sender scene c)
step_is scene c step app is at = is ∙ ap (λ (a : AppDecl). a.tick) at ∙ tick_is scene (sender scene c)

pub IsRoomWait-of : (scene : Scene) (c step : ℕ) → IsFaultless scene → c < length scene.links → step ≡ tick scene (sender scene c) →
    IsRoomWait (length scene.apps) (record { without_room = room_wait scene c 0; step = step })
IsRoomWait-of scene c step faultless link is =
    let timed = timed_at scene c faultless link in
    record {
      within = room_within scene c 0 timed (omega arith);
      some = rw is timed.sends.tick_from;
      step = rw is timed.sends.tick_to;
    }

-- a limit that a connection has already makes no difference
pub with_limit-same : (limits : Limits) (c m : ℕ) → get_or limits c None ≡ Some m → with_limit limits c m ≡ limits
with_limit-same [] c m is = refl
with_limit-same (x ∷ xs) zero m is = ap (λ y. y ∷ xs) (sym is)
with_limit-same (x ∷ xs) (suc c) m is = ap (λ ys. x ∷ ys) (with_limit-same xs c m is)

-- ---- a limit

-- the waits that count, with the wait for room under the limit that is chosen
pub AreSame-with_limit : (scene : Scene) (limits : Limits) (all : List Wait) (c m : ℕ) (stated : Option ℕ) → c < length scene.links → c < length limits → get_or limits c None ≡ stated →
    AreSame all (waits scene limits) → IsChosen scene all c stated m → AreSame (all ++ room_chosen scene c stated m) (waits scene (with_limit limits c m))
AreSame-with_limit scene limits all c m (Some given) link lt is same chosen =
    let P : Limits → Type 0 = λ ls. AreSame (all ++ []) (waits scene ls) in
    subst P (sym (with_limit-same limits c m (is ∙ ap (λ g. Some g) (sym chosen)))) (rw (append-nil all) same)
AreSame-with_limit scene limits all c m None link lt is same chosen =
    AreSame-trans (all ++ room_wait scene c m ∷ []) (waits scene limits ++ room_wait scene c m ∷ []) (waits scene (with_limit limits c m))
    (AreSame-append all (waits scene limits) (room_wait scene c m ∷ []) same) (AreSame-with_room scene limits c m link lt is)

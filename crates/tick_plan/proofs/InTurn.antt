-- Limits that are chosen one after another, in the order of the connections.
use Rattle.std.proofs.Common.{◌≡◌, ◌≢◌, ℕ, suc, ◌+◌, ◌-◌, ◌<◌, List, [], ◌∷◌, ◌++◌, length, take, drop, map, set, get_or, Option, None, Some, refl, ap, sym, ◌∙◌, subst, arith, All, ⊎_elim}
use Rattle.std.specs.Prelude.{slice_index}
use Rattle.std.specs.Int.{IsInRange}
use Rattle.std.proofs.lemmas.Bool.{cases_eq}
use Rattle.std.proofs.lemmas.List.{append-nil, append_assoc, drop_more, get_or_append_left, get_or-append_right, get_or_push, length-drop, length-map, length-append, map-append, take-append-le, take_all}
use Rattle.std.proofs.lemmas.List.Elements.{All-nil, All-push}
use Rattle.std.proofs.lemmas.List.FromFn.{get_or-map-range_with_len, length-map-range_with_len}
use Rattle.std.proofs.Math.ListN.{drop_of_length-le}
use Rattle.std.proofs.Math.Seq.{set-append_seam}
use Rattle.scene_model.specs.Cover.{AllCovered, IsWithin}
use Rattle.scene_model.specs.Faults.{IsFaultless}
use Rattle.scene_model.specs.Waits.{Limits, greatest_limit, room_wait, waits, counting, stated, stated_limits, IsLeast, IsLimit}
use Rattle.scene_model.specs.declared.scene.Scene.{Scene}
use Rattle.scene_model.specs.declared.wait.Wait.{Wait}
use Rattle.scene_model.proofs.Bounds.{timed_at}
use Rattle.scene_model.proofs.WaitBounds.{room_within}
use Rattle.tick_plan.specs.Choices.{AreSame, HasChosenBelow, IsBelowUnless, IsChosen, room_chosen}
use Rattle.tick_plan.proofs.SceneLimits.{with_limit, AreSame-refl, AreSame-AllCovered, AreSame-HasUncovered, AreSame-with_limit, AreSame-with_room, IsLeastAt-same}

-- the limits that count once these are chosen, for the first connections
abbrev pub under_way : Scene → List ℕ → Limits
under_way scene limits = map (λ (m : ℕ). Some m) limits ++ drop (length limits) (stated_limits scene)

pub length-stated_limits : (scene : Scene) → length (stated_limits scene) ≡ length scene.links
length-stated_limits scene = length-map-range_with_len (stated scene) 0 (length scene.links)

pub stated_limits-at : (scene : Scene) (c : ℕ) → c < length scene.links → get_or (stated_limits scene) c None ≡ stated scene c
stated_limits-at scene c link = get_or-map-range_with_len (stated scene) 0 (length scene.links) c c None link (omega arith)

-- ---- the next connection

length-under_way : (scene : Scene) (limits : List ℕ) → length limits < length scene.links → length (under_way scene limits) ≡ length scene.links
length-under_way scene limits lt =
    let n : length (map (λ (m : ℕ). Some m) limits) ≡ length limits = length-map limits (λ (m : ℕ). Some m) in
    omega (
      arith,
      n,
      length-append (map (λ (m : ℕ). Some m) limits) (drop (length limits) (stated_limits scene)),
      length-drop (length limits) (stated_limits scene),
      length-stated_limits scene,
    )

drop_stated : (scene : Scene) (limits : List ℕ) → length limits < length scene.links →
    under_way scene limits ≡ map (λ (m : ℕ). Some m) limits ++ get_or (stated_limits scene) (length limits) None ∷ drop (length limits + 1) (stated_limits scene)
drop_stated scene limits lt =
    let more = drop_more (stated_limits scene) (length limits) None (omega (arith, lt, length-stated_limits scene)) in
    ap (λ rest. map (λ (m : ℕ). Some m) limits ++ rest) more

-- it has its stated limit still
pub under_way-next : (scene : Scene) (limits : List ℕ) → length limits < length scene.links → get_or (under_way scene limits) (length limits) None ≡ stated scene (length limits)
under_way-next scene limits lt =
    let n : length (map (λ (m : ℕ). Some m) limits) ≡ length limits = length-map limits (λ (m : ℕ). Some m) in
    let e = get_or-append_right (map (λ (m : ℕ). Some m) limits) (get_or (stated_limits scene) (length limits) None ∷ drop (length limits + 1) (stated_limits scene)) (length limits) (length limits) None n (omega arith) in
    let z : length limits - length limits ≡ 0 = omega arith in
    rw (drop_stated scene limits lt, e, z) (stated_limits-at scene (length limits) lt)

-- with a limit for it they are the limits that count for it
with_next : (scene : Scene) (limits : List ℕ) (m : ℕ) → length limits < length scene.links →
    with_limit (under_way scene limits) (length limits) m ≡ map (λ (m : ℕ). Some m) limits ++ Some m ∷ drop (length limits + 1) (stated_limits scene)
with_next scene limits m lt =
    let xs = map (λ (m : ℕ). Some m) limits in
    let rest = drop (length limits + 1) (stated_limits scene) in
    let y = get_or (stated_limits scene) (length limits) None in
    let n : length xs ≡ length limits = length-map limits (λ (m : ℕ). Some m) in
    let seam : set (xs ++ y ∷ rest) (length xs) (Some m) ≡ xs ++ Some m ∷ rest = set-append_seam xs y rest (Some m) in
    let P : ℕ → Type 0 = λ k. set (xs ++ y ∷ rest) k (Some m) ≡ xs ++ Some m ∷ rest in
    ap (λ all. set all (length limits) (Some m)) (drop_stated scene limits lt) ∙ subst P n seam

pub under_way-push : (scene : Scene) (limits : List ℕ) (m : ℕ) → length limits < length scene.links →
    with_limit (under_way scene limits) (length limits) m ≡ under_way scene (limits ++ m ∷ [])
under_way-push scene limits m lt =
    let xs = map (λ (m : ℕ). Some m) limits in
    let rest = drop (length limits + 1) (stated_limits scene) in
    let n : length (limits ++ m ∷ []) ≡ length limits + 1 = length-append limits (m ∷ []) in
    let e : map (λ (m : ℕ). Some m) (limits ++ m ∷ []) ≡ xs ++ Some m ∷ [] = map-append (λ (m : ℕ). Some m) limits (m ∷ []) in
    let whole : under_way scene (limits ++ m ∷ []) ≡ xs ++ Some m ∷ rest = rw (n, e) (append_assoc xs (Some m ∷ []) rest) in
    with_next scene limits m lt ∙ sym whole

-- ---- its limit

counting-next : (scene : Scene) (limits : List ℕ) (m k : ℕ) → length limits < length scene.links →
    counting scene (limits ++ m ∷ []) (length limits) k ≡ with_limit (under_way scene limits) (length limits) k
counting-next scene limits m k lt =
    let front : take (length limits) (limits ++ m ∷ []) ≡ limits = take-append-le (length limits) limits (m ∷ []) (omega arith) ∙ take_all (length limits) limits (omega arith) in
    let e : suc (length limits) ≡ length limits + 1 = omega arith in
    rw (front, e) (sym (with_next scene limits k lt))

-- the waits with a limit for it are those that count for it
counting_same : (scene : Scene) (limits : List ℕ) (m k : ℕ) → length limits < length scene.links → get_or (under_way scene limits) (length limits) None ≡ None →
    AreSame (waits scene (under_way scene limits) ++ room_wait scene (length limits) k ∷ []) (waits scene (counting scene (limits ++ m ∷ []) (length limits) k))
counting_same scene limits m k lt none =
    let all = waits scene (under_way scene limits) in
    let P : Limits → Type 0 = λ ls. AreSame (all ++ room_wait scene (length limits) k ∷ []) (waits scene ls) in
    subst P (sym (counting-next scene limits m k lt)) (AreSame-with_room scene (under_way scene limits) (length limits) k lt (omega (arith, length-under_way scene limits lt)) none)

limit_next : (scene : Scene) (limits : List ℕ) (all : List Wait) (m : ℕ) (limit : Option ℕ) → length limits < length scene.links → get_or (under_way scene limits) (length limits) None ≡ limit →
    AreSame all (waits scene (under_way scene limits)) → IsChosen scene all (length limits) limit m → IsLimit scene (limits ++ m ∷ []) (length limits) limit
limit_next scene limits all m (Some given) lt is same chosen = get_or_push limits m 0 (length limits) refl ∙ chosen
limit_next scene limits all m None lt is same chosen =
    let here : slice_index (limits ++ m ∷ []) (length limits) ≡ m = get_or_push limits m 0 (length limits) refl in
    let P : ℕ → Type 0 = λ x. IsLeast scene (limits ++ m ∷ []) (length limits) x in
    let own = IsLeastAt-same scene all (waits scene (under_way scene limits)) (length limits) m same chosen in
    let least : IsLeast scene (limits ++ m ∷ []) (length limits) m = record {
      some = own.some;
      covered = AreSame-AllCovered _ _ (counting_same scene limits m m lt is) own.covered;
      least = λ less from below. AreSame-HasUncovered _ _ (counting_same scene limits m less lt is) (own.least less from below);
    } in
    subst P (sym here) least

-- a limit more leaves the others theirs
limit_still : (scene : Scene) (limits : List ℕ) (m c : ℕ) (limit : Option ℕ) → c < length limits → IsLimit scene limits c limit → IsLimit scene (limits ++ m ∷ []) c limit
limit_still scene limits m c (Some given) lt is = get_or_append_left limits (m ∷ []) 0 c lt ∙ is
limit_still scene limits m c None lt is =
    let here : slice_index (limits ++ m ∷ []) c ≡ slice_index limits c = get_or_append_left limits (m ∷ []) 0 c lt in
    let front : take c (limits ++ m ∷ []) ≡ take c limits = take-append-le c limits (m ∷ []) (omega arith) in
    let counts : (k : ℕ) → counting scene (limits ++ m ∷ []) c k ≡ counting scene limits c k = λ k. ap (λ xs. map (λ l. Some l) xs ++ Some k ∷ drop (suc c) (stated_limits scene)) front in
    let P : ℕ → Type 0 = λ x. IsLeast scene (limits ++ m ∷ []) c x in
    let least : IsLeast scene (limits ++ m ∷ []) c (slice_index limits c) = record {
      some = is.some;
      covered = rw (counts (slice_index limits c)) is.covered;
      least = λ less from below. rw (counts less) (is.least less from below);
    } in
    subst P (sym here) least

-- ---- what is kept from one connection to the next

pub record IsUnderWay (scene : Scene) (all : List Wait) (limits : List ℕ) : Type 0 where
  pub same : AreSame all (waits scene (under_way scene limits))
  pub within : All (IsWithin (length scene.apps)) all
  pub covered : AllCovered all
  pub in_range : All (IsInRange 1 greatest_limit) limits
  pub below : HasChosenBelow scene limits
  pub each : (c : ℕ) → c < length limits → IsLimit scene limits c (stated scene c)

pub IsUnderWay-start : (scene : Scene) (all : List Wait) → all ≡ waits scene (stated_limits scene) → All (IsWithin (length scene.apps)) all → AllCovered all → IsUnderWay scene all []
IsUnderWay-start scene all is within covered = record {
  same = rw is (AreSame-refl (waits scene (stated_limits scene)));
  within = within;
  covered = covered;
  in_range = All-nil (IsInRange 1 greatest_limit);
  below = λ c lt. absurd (omega arith);
  each = λ c lt. absurd (omega arith);
}

-- the wait for room that joins them
room_within' : (scene : Scene) (all : List Wait) (c m : ℕ) (limit : Option ℕ) → IsFaultless scene → c < length scene.links → IsInRange 1 greatest_limit m → All (IsWithin (length scene.apps)) all →
    All (IsWithin (length scene.apps)) (all ++ room_chosen scene c limit m)
room_within' scene all c m (Some given) faultless link range within = rw (append-nil all) within
room_within' scene all c m None faultless link range within =
    All-push (IsWithin (length scene.apps)) all (room_wait scene c m) within (room_within scene c m (timed_at scene c faultless link) range.1)

room_covered : (scene : Scene) (all : List Wait) (c m : ℕ) (limit : Option ℕ) → AllCovered all → IsChosen scene all c limit m → AllCovered (all ++ room_chosen scene c limit m)
room_covered scene all c m (Some given) covered chosen = rw (append-nil all) covered
room_covered scene all c m None covered chosen = chosen.covered

pub IsUnderWay-push : (scene : Scene) (all : List Wait) (limits : List ℕ) (m : ℕ) → IsFaultless scene → IsUnderWay scene all limits → length limits < length scene.links → IsInRange 1 greatest_limit m →
    IsBelowUnless (stated scene (length limits)) m → IsChosen scene all (length limits) (stated scene (length limits)) m →
    IsUnderWay scene (all ++ room_chosen scene (length limits) (stated scene (length limits)) m) (limits ++ m ∷ [])
IsUnderWay-push scene all limits m faultless h lt in_range below chosen =
    let c = length limits in
    let limit = stated scene c in
    let next = under_way-next scene limits lt in
    let n : length (limits ++ m ∷ []) ≡ c + 1 = length-append limits (m ∷ []) in
    let P : Limits → Type 0 = λ ls. AreSame (all ++ room_chosen scene c limit m) (waits scene ls) in
    record {
      same = subst P (under_way-push scene limits m lt) (AreSame-with_limit scene (under_way scene limits) all c m limit lt (omega (arith, length-under_way scene limits lt)) next h.same chosen);
      within = room_within' scene all c m limit faultless lt in_range h.within;
      covered = room_covered scene all c m limit h.covered chosen;
      in_range = All-push (IsInRange 1 greatest_limit) limits m h.in_range in_range;
      below = λ d under.
          let Q : ℕ → Type 0 = λ x. IsBelowUnless (stated scene x) (slice_index (limits ++ m ∷ []) x) in
          ⊎_elim
          (λ (same : d ≡ c). subst Q (sym same) (rw (get_or_push limits m 0 c refl) below))
          (λ (other : d ≢ c).
          let lt' : d < c = omega (arith, n, under, other) in
          rw (get_or_append_left limits (m ∷ []) 0 d lt') (h.below d lt'))
          (cases_eq d c);
      each = λ d under.
          let Q : ℕ → Type 0 = λ x. IsLimit scene (limits ++ m ∷ []) x (stated scene x) in
          ⊎_elim
          (λ (same : d ≡ c). subst Q (sym same) (limit_next scene limits all m limit lt next h.same chosen))
          (λ (other : d ≢ c).
          let lt' : d < c = omega (arith, n, under, other) in
          limit_still scene limits m d (stated scene d) lt' (h.each d lt'))
          (cases_eq d c);
    }

-- once each connection has its limit
pub all_chosen : (scene : Scene) (all : List Wait) (limits : List ℕ) → length limits ≡ length scene.links → IsUnderWay scene all limits → AreSame all (waits scene (map (λ (m : ℕ). Some m) limits))
all_chosen scene all limits counted h =
    let none : drop (length limits) (stated_limits scene) ≡ [] = drop_of_length-le (stated_limits scene) (omega (arith, counted, length-stated_limits scene)) in
    let e : under_way scene limits ≡ map (λ (m : ℕ). Some m) limits = ap (λ rest. map (λ (m : ℕ). Some m) limits ++ rest) none ∙ append-nil (map (λ (m : ℕ). Some m) limits) in
    subst (λ (ls : Limits). AreSame all (waits scene ls)) e h.same

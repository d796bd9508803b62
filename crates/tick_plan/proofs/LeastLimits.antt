-- The least limit of a wait for room.
use Rattle.std.proofs.Common.{◌≡◌, ◌≢◌, ℕ, ◌+◌, ◌-◌, ◌*◌, ◌<◌, ◌≤◌, ℤ, pos, ◌+ℤ◌, ◌-ℤ◌, ◌*ℤ◌, ◌≤ℤ◌, ◌<ℤ◌, List, [], ◌∷◌, ◌++◌, length, refl, ap, sym, ◌∙◌, subst, arith, ⊎_elim}
use Rattle.std.proofs.lemmas.Int.{ints}
use Rattle.std.proofs.lemmas.List.{get_or_default}
use Rattle.std.proofs.lemmas.List.Elements.{All-cons, All-weaker, All-push, Contains-append_left, Contains-push}
use Rattle.std.proofs.lemmas.Bool.{cases_eq, cases_lt}
use Rattle.std.proofs.Math.Nat.{mul-le-mul_left, mul-le-mul_right}
use Rattle.std.proofs.Math.IntN.{pos-*ℤ-pos}
use Rattle.std.specs.List.{All, Contains}
use Rattle.std.specs.Prelude.{slice_index, map}
use Rattle.scene_model.specs.Cover.{IsWalk, sum_of, AreAmong, AllCovered, HasUncovered, Passes, IsWithin, greatest_shortfall}
use Rattle.scene_model.specs.Limits.{most_apps}
use Rattle.scene_model.specs.Waits.{greatest_limit}
use Rattle.scene_model.specs.declared.wait.Wait.{Wait}
use Rattle.scene_model.proofs.Walks.{scaled-add, end_of, end_of-walk, length-le_from_once}
use Rattle.scene_model.proofs.Cycles.{All-among, passed_are_covered}
use Rattle.tick_plan.specs.Bounds.{greatest_rise, greatest_start}
use Rattle.tick_plan.specs.Heights.{rise_of, HaveWalks, IsRelaxed}
use Rattle.tick_plan.specs.Room.{IsRoomWait, room_under, need_of}
use Rattle.tick_plan.specs.declared.room.RoomWait.{RoomWait}
use Rattle.tick_plan.proofs.Walks.{rise_of-le, rise_of-le_greatest, rises-le, rises-le_greatest, walk_height-le, walk_height-end, short_from_once, comes_to-once, uncovered_from_rise}
use Rattle.tick_plan.proofs.Searching.{Passes-relaxed, all_pass}

-- the rise of the wait under the limit m
pub rise_of-room_under : (n : ℕ) (room : RoomWait) (m : ℕ) → rise_of n (room_under room m) ≡ rise_of n room.without_room -ℤ pos (m * (n * room.step))
rise_of-room_under n room m =
    let w = room.without_room in
    let apart : (w.allowance +ℤ pos (m * room.step)) -ℤ w.burden ≡ (w.allowance -ℤ w.burden) +ℤ pos (m * room.step) = omega (arith, ints) in
    let e = ap (λ z. pos n *ℤ z) apart in
    let t : n * (m * room.step) ≡ m * (n * room.step) = omega arith in
    omega (arith, ints, e, t, scaled-add n (w.allowance -ℤ w.burden) (pos (m * room.step)), pos-*ℤ-pos n (m * room.step))

-- ---- the start

-- one application starts above all that a walk can rise, and the others at 0
pub low_starts : (heights : List ℕ) (app : ℕ) → slice_index heights app ≡ greatest_start → ((v : ℕ) → v ≢ app → slice_index heights v ≡ 0) → All (λ h. h ≤ greatest_start) heights
low_starts heights app high others = λ k d lt.
    rw (get_or_default heights k d 0 lt)
    (⊎_elim
    (λ (same : k ≡ app). omega (arith, ap (slice_index heights) same, high))
    (λ (other : k ≢ app). omega (arith, others k other))
    (cases_eq k app))

-- ---- enough

IsRelaxed-room_under : (n : ℕ) (room : RoomWait) (m : ℕ) (heights : List ℕ) → need_of n room.without_room heights ≤ℤ pos (m * (n * room.step)) → IsRelaxed n heights (room_under room m)
IsRelaxed-room_under n room m heights enough = record { relaxed = omega (arith, ints, enough, rise_of-room_under n room m) }

pub enough_covers : (n : ℕ) (all : List Wait) (room : RoomWait) (m : ℕ) (heights : List ℕ) → length heights ≡ n → All (IsWithin n) all → IsRoomWait n room →
    All (IsRelaxed n heights) all → need_of n room.without_room heights ≤ℤ pos (m * (n * room.step)) → AllCovered (all ++ room_under room m ∷ [])
enough_covers n all room m heights counted within h relaxed enough =
    let potentials = map (λ (h : ℕ). pos h) heights in
    let pass : All (Passes n potentials) all = all_pass n heights potentials all counted refl within relaxed in
    let own : Passes n potentials (room_under room m) = Passes-relaxed n heights potentials (room_under room m) counted refl h.within.waiter h.within.awaited (IsRelaxed-room_under n room m heights enough) in
    passed_are_covered n potentials (all ++ room_under room m ∷ []) (All-push (Passes n potentials) all (room_under room m) pass own)

-- ---- too little

-- where the wait would raise its waiter, the walk of the awaited application comes to the waiter
walk_comes_back : (n : ℕ) (all : List Wait) (room : RoomWait) (e : Wait) (starts : ℕ → ℕ) (heights : List ℕ) →
    n ≤ most_apps → All (IsWithin n) all → (h : HaveWalks n all starts heights) → (lt : room.without_room.awaited < n) →
    starts room.without_room.waiter ≡ greatest_start → ((v : ℕ) → v ≢ room.without_room.waiter → starts v ≡ 0) → rise_of n e ≤ℤ pos greatest_rise →
    pos (slice_index heights room.without_room.waiter) <ℤ (rise_of n e +ℤ pos (slice_index heights room.without_room.awaited)) →
    end_of room.without_room.awaited (h.given room.without_room.awaited lt).0 ≡ room.without_room.waiter
walk_comes_back n all room e starts heights few within h lt high others own higher =
    let f = rise_of n in
    let ws = (h.given room.without_room.awaited lt).0 in
    let g = (h.given room.without_room.awaited lt).1 in
    let short : length ws ≤ n = short_from_once n all ws within g.among g.once in
    let rises = walk_height-le f (λ v. 0) 0 greatest_rise (λ v. omega arith) room.without_room.awaited ws (rises-le_greatest n all ws few within g.among) in
    let sum : sum_of f ws ≤ℤ pos (0 + length ws * greatest_rise) = omega (arith, ints, rises, walk_height-end f (λ v. 0) room.without_room.awaited ws) in
    let whole = walk_height-end f starts room.without_room.awaited ws in
    let under = h.starts_under room.without_room.waiter in
    ⊎_elim (λ (same : end_of room.without_room.awaited ws ≡ room.without_room.waiter). same)
    (λ (other : end_of room.without_room.awaited ws ≢ room.without_room.waiter).
    absurd (omega (arith, ints, higher, own, sum, short, g.height, whole, others (end_of room.without_room.awaited ws) other, high, under)))
    (cases_eq (end_of room.without_room.awaited ws) room.without_room.waiter)

-- so the wait and that walk are a cycle that is not covered
pub less_uncovers : (n : ℕ) (all : List Wait) (room : RoomWait) (k : ℕ) (starts : ℕ → ℕ) (heights : List ℕ) →
    n ≤ most_apps → All (IsWithin n) all → HaveWalks n all starts heights → IsRoomWait n room →
    starts room.without_room.waiter ≡ greatest_start → ((v : ℕ) → v ≢ room.without_room.waiter → starts v ≡ 0) →
    pos (k * (n * room.step)) <ℤ need_of n room.without_room heights → HasUncovered (all ++ room_under room k ∷ [])
less_uncovers n all room k starts heights few within h is high others less =
    let e = room_under room k in
    let f = rise_of n in
    let ws = (h.given room.without_room.awaited is.within.awaited).0 in
    let g = (h.given room.without_room.awaited is.within.awaited).1 in
    let higher : pos (slice_index heights room.without_room.waiter) <ℤ (f e +ℤ pos (slice_index heights room.without_room.awaited)) = omega (arith, ints, less, rise_of-room_under n room k) in
    let own : f e ≤ℤ pos greatest_rise = omega (arith, ints, rise_of-le_greatest n room.without_room few is.within.shortfall, rise_of-room_under n room k) in
    let back = walk_comes_back n all room e starts heights few within h is.within.awaited high others own higher in
    let P : ℕ → Type 0 = λ z. IsWalk room.without_room.awaited ws z in
    let last : g.last ≡ room.without_room.waiter = sym (end_of-walk room.without_room.awaited ws g.last g.walk) ∙ back in
    let closed : IsWalk room.without_room.awaited ws room.without_room.waiter = subst P last g.walk in
    let top : starts (end_of room.without_room.awaited ws) ≡ greatest_start = ap starts back ∙ high in
    let rises : pos 0 <ℤ sum_of f (e ∷ ws) =
    omega (arith, ints, higher, g.height, walk_height-end f starts room.without_room.awaited ws, top, high, h.starts_under room.without_room.waiter) in
    let more : List Wait = all ++ e ∷ [] in
    let among : AreAmong more (e ∷ ws) = All-cons (Contains more) e ws (Contains-push all e) (All-weaker (Contains all) (Contains more) (λ w i. Contains-append_left all (e ∷ []) w i) ws g.among) in
    let each : All (IsWithin n) ws = All-among (IsWithin n) all ws within g.among in
    let short : length (e ∷ ws) ≤ n = length-le_from_once (λ w. w.awaited) n (e ∷ ws)
    (All-cons (λ w. w.awaited < n) e ws is.within.awaited (All-weaker (IsWithin n) (λ w. w.awaited < n) (λ w i. i.awaited) ws each)) (comes_to-once e ws g.away g.once) in
    (e ∷ ws, record { cycle_of = record { closed = closed; among = among }; uncovered = uncovered_from_rise n (e ∷ ws) short rises })

-- ---- the limit is small

pub need_of-small : (n : ℕ) (all : List Wait) (room : RoomWait) (starts : ℕ → ℕ) (heights : List ℕ) →
    n ≤ most_apps → All (IsWithin n) all → HaveWalks n all starts heights → IsRoomWait n room →
    starts room.without_room.waiter ≡ greatest_start → need_of n room.without_room heights ≤ℤ pos ((most_apps + 1) * (n * greatest_shortfall + 1))
need_of-small n all room starts heights few within h is high =
    let f = rise_of n in
    let ws = (h.given room.without_room.awaited is.within.awaited).0 in
    let g = (h.given room.without_room.awaited is.within.awaited).1 in
    let short : length ws ≤ n = short_from_once n all ws within g.among g.once in
    let few_waits : length ws ≤ most_apps = omega (arith, short, few) in
    let times : length ws * (n * greatest_shortfall + 1) ≤ most_apps * (n * greatest_shortfall + 1) = mul-le-mul_right (n * greatest_shortfall + 1) few_waits in
    let own : f room.without_room ≤ℤ pos (n * greatest_shortfall + 1) = rise_of-le n room.without_room is.within.shortfall in
    let top = walk_height-le f starts greatest_start (n * greatest_shortfall + 1) h.starts_low room.without_room.awaited ws (rises-le n all ws within g.among) in
    omega (arith, ints, own, times, g.height, high, h.starts_under room.without_room.waiter, top)

-- a limit is small where each smaller one is too little
pub limit_small : (n step m : ℕ) (need : ℤ) → 1 ≤ n → 1 ≤ step → need ≤ℤ pos ((most_apps + 1) * (n * greatest_shortfall + 1)) →
    ((k : ℕ) → 1 ≤ k → k < m → pos (k * (n * step)) <ℤ need) → m < greatest_limit
limit_small n step m need some step_some small least =
    ⊎_elim
    (λ (lt : m < greatest_limit). lt)
    (λ (ge : greatest_limit ≤ m).
    let less = least (greatest_limit - 1) (omega arith) (omega arith) in
    let times : n * 1 ≤ n * step = mul-le-mul_left n step_some in
    absurd (omega (arith, ints, less, times, small)))
    (cases_lt m greatest_limit)

-- What the search keeps, and what it does at one wait.
use Rattle.std.proofs.Common.{◌≡◌, ◌≢◌, ℕ, ◌+◌, ◌*◌, ◌-◌, ◌<◌, ◌≤◌, ℤ, pos, ◌+ℤ◌, ◌<ℤ◌, List, [], ◌∷◌, ◌++◌, length, take, drop, set, add-one, get_or, suc, zero, refl, ap, sym, subst, ◌∙◌, arith, Vec, ⊎_elim, get_or-set_same, get_or-set_other}
use Rattle.std.proofs.lemmas.Int.{ints}
use Rattle.std.proofs.lemmas.List.{append-nil, length-set, length-map, length-replicate, map-set, take_all, get_or_default, get_or-map, get_or_past, set_past}
use Rattle.std.proofs.lemmas.List.Sums.{sum_by-set}
use Rattle.std.proofs.lemmas.List.Elements.{All-tail, All-cons, All-nil, All-map, All-replicate, All-same, All-weaker, Contains-get_or}
use Rattle.std.proofs.lemmas.Bool.{cases_eq, cases_lt}
use Rattle.std.proofs.Math.ListN.{drop_of_length-le}
use Rattle.std.specs.List.{All, Contains}
use Rattle.std.specs.Prelude.{slice_index, map, replicate}
use Rattle.std.specs.declared.alloc.Global.{Global}
use Rattle.scene_model.specs.Cover.{AllCovered, IsUncovered, WaitsOnce, IsReportable, Passes, potential, IsWithin}
use Rattle.scene_model.specs.Limits.{most_apps}
use Rattle.scene_model.specs.declared.wait.Wait.{Wait}
use Rattle.scene_model.specs.declared.wait.WaitKind.TheVariants.{ForBlock}
use Rattle.scene_model.proofs.Cycles.{IsReportable-turned, covered_or_not}
use Rattle.tick_plan.specs.Bounds.{greatest_rise, greatest_start, greatest_height}
use Rattle.tick_plan.specs.Plans.{IsPotential}
use Rattle.tick_plan.specs.Heights.{rise_of, GivesHeight, HaveWalks, IsRising, at_zero, walk_at, AreGiven, IsRelaxed, gap_of}
use Rattle.tick_plan.proofs.Walks.{walk_height-le, RestsWithin-higher, comes_to-none, comes_to-once, short_from_once, rises-le_greatest, cut-uncovered}

-- a wait, as what stands past the end of a list
abbrev pub no_wait : Wait
no_wait = record { waiter = 0; awaited = 0; link = 0; kind = ForBlock; allowance = pos 0; burden = pos 0 }

-- ---- a list that was lent as a slice

-- what is written through the slice is the list then
written_whole : (n : ℕ) (new old : List ℕ) → length new ≡ n → length old ≡ n → take n (new ++ drop (length new) old) ≡ new
written_whole n new old e f =
    let none : drop (length new) old ≡ [] = drop_of_length-le old (omega (arith, e, f)) in
    rw (none, append-nil) (take_all n new (omega (arith, e)))

-- ---- the start

zero_at : (n v : ℕ) → slice_index (replicate n 0) v ≡ 0
zero_at zero v = refl
zero_at (suc n) zero = refl
zero_at (suc n) (suc v) = zero_at n v

pub zeros_low : (n v : ℕ) → slice_index (replicate n 0) v ≤ 0
zeros_low n v = omega (arith, zero_at n v)

-- an application that lies where it starts needs no wait
given_at_start : (f : Wait → ℤ) (starts heights : ℕ → ℕ) (all : List Wait) (v : ℕ) → heights v ≡ starts v → GivesHeight f starts heights all v []
given_at_start f starts heights all v same = record {
  last = v;
  walk = refl;
  height = ap (λ n. pos n) (sym same);
  rests = omega (arith, same);
  among = All-nil (Contains all);
  away = refl;
  once = λ x. omega arith;
}

-- ---- heights are low

heights_by : (low n : ℕ) (all : List Wait) (starts : ℕ → ℕ) (heights : List ℕ) → n ≤ most_apps → All (IsWithin n) all →
    HaveWalks n all starts heights → ((v : ℕ) → starts v ≤ low) → All (λ h. h ≤ low + most_apps * greatest_rise) heights
heights_by low n all starts heights few within h lows k d lt =
    let given = h.given k (omega (arith, h.counted)) in
    let ws = given.0 in
    let g = given.1 in
    let short : length ws ≤ n = short_from_once n all ws within g.among g.once in
    let top = walk_height-le (rise_of n) starts low greatest_rise lows k ws (rises-le_greatest n all ws few within g.among) in
    rw (get_or_default heights k d 0 lt) (omega (arith, ints, top, g.height, short))

pub heights_low : (n : ℕ) (all : List Wait) (starts : ℕ → ℕ) (heights : List ℕ) → n ≤ most_apps → All (IsWithin n) all →
    HaveWalks n all starts heights → All (λ h. h ≤ greatest_height) heights
heights_low n all starts heights few within h = heights_by greatest_start n all starts heights few within h h.starts_low

-- where all start at 0
pub heights_from_zero : (n : ℕ) (all : List Wait) (starts : ℕ → ℕ) (heights : List ℕ) → n ≤ most_apps → All (IsWithin n) all →
    HaveWalks n all starts heights → ((v : ℕ) → starts v ≤ 0) → All (λ h. h ≤ 0 + most_apps * greatest_rise) heights
heights_from_zero = heights_by 0

-- walks that are kept are walks
pub HaveWalks-given : (n : ℕ) (all : List Wait) (heights : List ℕ) (walks : List (Vec Wait Global)) → AreGiven n all heights walks → HaveWalks n all at_zero heights
HaveWalks-given n all heights walks h = record {
  counted = h.heights_counted;
  starts_low = λ v. omega arith;
  starts_under = λ v. omega arith;
  given = λ v lt. (walk_at walks v, h.given v lt);
}

-- ---- a wait that raises its waiter

-- the wait at a place is one of all
pub is_one : (n : ℕ) (all : List Wait) (at : ℕ) (e : Wait) → at < length all → All (IsWithin n) all → e ≡ get_or all at e → Contains all e × IsWithin n e
is_one n all at e lt within is = rw is (Contains-get_or all at e lt, within at e lt)

set-higher_here : (heights : List ℕ) (u height : ℕ) → get_or heights u 0 < height → get_or heights u 0 ≤ get_or (set heights u height) u 0
set-higher_here heights u height higher =
    ⊎_elim (λ (lt : u < length heights). rw get_or-set_same (omega arith)) (λ (ge : length heights ≤ u). rw set_past (omega arith)) (cases_lt u (length heights))

-- no height falls
pub set-higher : (heights : List ℕ) (u height v : ℕ) → get_or heights u 0 < height → get_or heights v 0 ≤ get_or (set heights u height) v 0
set-higher heights u height v higher =
    ⊎_elim (λ (same : v ≡ u). rw same (set-higher_here heights u height higher)) (λ (other : v ≢ u). rw get_or-set_other (omega arith)) (cases_eq v u)

-- the waiter's new walk gives it its new height
given_new : (f : Wait → ℤ) (starts p q : ℕ → ℕ) (all : List Wait) (e : Wait) (ws : List Wait) → GivesHeight f starts p all e.awaited ws →
    ((v : ℕ) → p v ≤ q v) → pos (q e.waiter) ≡ f e +ℤ pos (p e.awaited) → Contains all e →
    All (λ w. w.awaited ≢ e.waiter) (e ∷ ws) → GivesHeight f starts q all e.waiter (e ∷ ws)
given_new f starts p q all e ws g le height in' none = record {
  last = g.last;
  walk = (refl, g.walk);
  height = omega (arith, ints, g.height, height);
  rests = (omega (arith, ints, g.height, height), RestsWithin-higher f starts p q le e.awaited ws g.rests);
  among = All-cons (Contains all) e ws in' g.among;
  away = comes_to-none e.waiter (e ∷ ws) none;
  once = comes_to-once e ws g.away g.once;
}

-- another's walk goes on giving it its height
given_still : (f : Wait → ℤ) (starts p q : ℕ → ℕ) (all : List Wait) (a : ℕ) (ws : List Wait) → GivesHeight f starts p all a ws →
    ((v : ℕ) → p v ≤ q v) → q a ≡ p a → GivesHeight f starts q all a ws
given_still f starts p q all a ws g le same = record {
  last = g.last;
  walk = g.walk;
  height = g.height ∙ ap (λ n. pos n) (sym same);
  rests = RestsWithin-higher f starts p q le a ws g.rests;
  among = g.among;
  away = g.away;
  once = g.once;
}

walk_at-set_same : (walks : List (Vec Wait Global)) (u : ℕ) (walk : Vec Wait Global) → u < length walks → walk_at (set walks u walk) u ≡ walk.items
walk_at-set_same walks u walk lt =
    let lt' : u < length (map (λ (r : Vec Wait Global). r.items) walks) = rw length-map lt in
    rw map-set (rw get_or-set_same refl)

walk_at-set_other : (walks : List (Vec Wait Global)) (u v : ℕ) (walk : Vec Wait Global) → v ≢ u → walk_at (set walks u walk) v ≡ walk_at walks v
walk_at-set_other walks u v walk ne = rw map-set (rw get_or-set_other refl)

pub AreGiven-raised : (n : ℕ) (all : List Wait) (heights : List ℕ) (walks : List (Vec Wait Global)) (e : Wait) (height : ℕ) (walk : Vec Wait Global) →
    AreGiven n all heights walks → IsWithin n e → Contains all e →
    pos height ≡ rise_of n e +ℤ pos (slice_index heights e.awaited) → slice_index heights e.waiter < height →
    walk.items ≡ e ∷ walk_at walks e.awaited → All (λ w. w.awaited ≢ e.waiter) walk.items →
    AreGiven n all (set heights e.waiter height) (set walks e.waiter walk)
AreGiven-raised n all heights walks e height walk h within in' is higher items none = record {
  heights_counted = length-set heights e.waiter height ∙ h.heights_counted;
  walks_counted = length-set walks e.waiter walk ∙ h.walks_counted;
  given = λ v lt.
      let f = rise_of n in
      let p = slice_index heights in
      let q = slice_index (set heights e.waiter height) in
      let le : (x : ℕ) → p x ≤ q x = λ x. set-higher heights e.waiter height x higher in
      let here : q e.waiter ≡ height = get_or-set_same heights e.waiter height 0 (omega (arith, h.heights_counted, within.waiter)) in
      ⊎_elim
      (λ (same : v ≡ e.waiter).
      let new : GivesHeight f at_zero q all e.waiter (e ∷ walk_at walks e.awaited) =
      given_new f at_zero p q all e (walk_at walks e.awaited) (h.given e.awaited within.awaited) le
      (ap (λ z. pos z) here ∙ is) in' (rw items at none) in
      rw same (rw (walk_at-set_same walks e.waiter walk (omega (arith, h.walks_counted, within.waiter)), items) new))
      (λ (other : v ≢ e.waiter).
      let old = given_still f at_zero p q all v (walk_at walks v) (h.given v lt) le (get_or-set_other heights e.waiter v height 0 other) in
      rw (walk_at-set_other walks e.waiter v walk other) old)
      (cases_eq v e.waiter);
}

-- the gap falls
pub gap_of-raised : (n : ℕ) (all : List Wait) (starts : ℕ → ℕ) (heights : List ℕ) (e : Wait) (height : ℕ) →
    n ≤ most_apps → All (IsWithin n) all → length heights ≡ n → e.waiter < n → slice_index heights e.waiter < height →
    (new : List ℕ) → new ≡ set heights e.waiter height → HaveWalks n all starts new → gap_of new < gap_of heights
gap_of-raised n all starts heights e height few within counted lt higher new is after =
    let here : slice_index new e.waiter ≡ height = rw is (get_or-set_same heights e.waiter height 0 (omega (arith, counted))) in
    let top = heights_low n all starts new few within after e.waiter 0 (omega (arith, after.counted)) in
    let gap = sum_by-set (λ z. greatest_height - z) heights e.waiter height 0 (omega (arith, counted)) in
    rw is (omega (arith, gap, here, top))

-- ---- where every cycle is covered

-- the walk of the awaited application never comes to the waiter
never_back : (n : ℕ) (all : List Wait) (starts p : ℕ → ℕ) (e : Wait) (ws : List Wait) → All (IsWithin n) all → AllCovered all → GivesHeight (rise_of n) starts p all e.awaited ws →
    Contains all e → pos (p e.waiter) <ℤ (rise_of n e +ℤ pos (p e.awaited)) → All (λ w. w.awaited ≢ e.waiter) (e ∷ ws)
never_back n all starts p e ws within covered g in' higher = λ k d lt back.
    covered_or_not all covered (e ∷ take k ws, (cut-uncovered n all starts p e ws k d within g in' lt back higher).0)

-- so the waiter gets its new height by a walk too
pub HaveWalks-raised : (n : ℕ) (all : List Wait) (starts : ℕ → ℕ) (heights : List ℕ) (e : Wait) (height : ℕ) → All (IsWithin n) all → AllCovered all →
    HaveWalks n all starts heights → IsWithin n e → Contains all e →
    pos height ≡ rise_of n e +ℤ pos (slice_index heights e.awaited) → slice_index heights e.waiter < height →
    HaveWalks n all starts (set heights e.waiter height)
HaveWalks-raised n all starts heights e height within' covered h within in' is higher = record {
  counted = length-set heights e.waiter height ∙ h.counted;
  starts_low = h.starts_low;
  starts_under = λ v. omega (arith, h.starts_under v, set-higher heights e.waiter height v higher);
  given = λ v lt.
      let f = rise_of n in
      let p = slice_index heights in
      let q = slice_index (set heights e.waiter height) in
      let le : (x : ℕ) → p x ≤ q x = λ x. set-higher heights e.waiter height x higher in
      let here : q e.waiter ≡ height = get_or-set_same heights e.waiter height 0 (omega (arith, h.counted, within.waiter)) in
      let P : ℕ → Type 0 = λ x. (ws : List Wait) × GivesHeight f starts q all x ws in
      let from = h.given e.awaited within.awaited in
      let none = never_back n all starts p e from.0 within' covered from.1 in' (omega (arith, ints, is, higher)) in
      ⊎_elim
      (λ (same : v ≡ e.waiter).
      let new : P e.waiter = (e ∷ from.0, given_new f starts p q all e from.0 from.1 le (ap (λ z. pos z) here ∙ is) in' none) in
      subst P (sym same) new)
      (λ (other : v ≢ e.waiter).
      let old = h.given v lt in
      (old.0, given_still f starts p q all v old.0 old.1 le (get_or-set_other heights e.waiter v height 0 other)))
      (cases_eq v e.waiter);
}

-- before any wait has raised its waiter
HaveWalks-start : (n : ℕ) (all : List Wait) (starts heights : List ℕ) → length heights ≡ n → heights ≡ starts → All (λ h. h ≤ greatest_start) heights →
    HaveWalks n all (slice_index starts) heights
HaveWalks-start n all starts heights counted same low = record {
  counted = counted;
  starts_low = λ v.
      rw (← same) (⊎_elim (λ (lt : v < length heights). low v 0 lt) (λ (ge : length heights ≤ v). rw get_or_past (omega arith)) (cases_lt v (length heights)));
  starts_under = λ v. let e : slice_index heights v ≡ slice_index starts v = ap (λ xs. slice_index xs v) same in omega (arith, e);
  given = λ v lt. ([], given_at_start (rise_of n) (slice_index starts) (slice_index heights) all v (ap (λ xs. slice_index xs v) same));
}

pub IsRising-start : (n : ℕ) (all : List Wait) (starts heights : List ℕ) → n ≤ most_apps → All (IsWithin n) all → AllCovered all → length heights ≡ n → heights ≡ starts →
    All (λ h. h ≤ greatest_start) heights → IsRising n all (slice_index starts) heights
IsRising-start n all starts heights few within covered counted same low = record {
  few = few;
  within = within;
  covered = covered;
  walks = HaveWalks-start n all starts heights counted same low;
}

zeros_are_low : (n : ℕ) (heights : List ℕ) → heights ≡ replicate n 0 → All (λ h. h ≤ greatest_start) heights
zeros_are_low n heights is = rw is (All-replicate (λ h. h ≤ greatest_start) n 0 (omega arith))

pub IsRising-zeros : (n : ℕ) (all : List Wait) (starts heights : List ℕ) → n ≤ most_apps → All (IsWithin n) all → AllCovered all → heights ≡ replicate n 0 → heights ≡ starts →
    IsRising n all (slice_index starts) heights
IsRising-zeros n all starts heights few within covered is same =
    IsRising-start n all starts heights few within covered (ap length is ∙ length-replicate n 0) same (zeros_are_low n heights is)

-- what a round leaves
pub IsRising-still : (n : ℕ) (all : List Wait) (starts : ℕ → ℕ) (old new : List ℕ) → IsRising n all starts old → HaveWalks n all starts new → IsRising n all starts new
IsRising-still n all starts old new h walks = record { few = h.few; within = h.within; covered = h.covered; walks = walks }

-- ---- a walk that comes to the waiter

pub walk_at_read : (walks : List (Vec Wait Global)) (v : ℕ) (row : Vec Wait Global) → v < length walks → row ≡ get_or walks v row → walk_at walks v ≡ row.items
walk_at_read walks v row lt read = get_or-map (λ (r : Vec Wait Global). r.items) walks v row [] lt ∙ ap (λ (r : Vec Wait Global). r.items) (sym read)

pub found_cycle : (n : ℕ) (all : List Wait) (heights : List ℕ) (walks : List (Vec Wait Global)) (e : Wait) (height last : ℕ) (whole : List Wait) (d : Wait) →
    All (IsWithin n) all → AreGiven n all heights walks → IsWithin n e → Contains all e →
    pos height ≡ rise_of n e +ℤ pos (slice_index heights e.awaited) → slice_index heights e.waiter < height →
    whole ≡ e ∷ walk_at walks e.awaited → last < length whole → (get_or whole last d).awaited ≡ e.waiter →
    IsUncovered all (take (last + 1) whole) × WaitsOnce (take (last + 1) whole)
found_cycle n all heights walks e height last whole d within h in'' in' is higher items lt back =
    let ws = walk_at walks e.awaited in
    let lt' : last < length (e ∷ ws) = rw items at lt in
    let back' : (get_or (e ∷ ws) last d).awaited ≡ e.waiter = rw items at back in
    let up : pos (slice_index heights e.waiter) <ℤ (rise_of n e +ℤ pos (slice_index heights e.awaited)) = omega (arith, ints, is, higher) in
    rw (items, add-one) (cut-uncovered n all at_zero (slice_index heights) e ws last d within (h.given e.awaited in''.awaited) in' lt' back' up)

pub found_told : (all cycle result : List Wait) → IsUncovered all cycle × WaitsOnce cycle →
    (k : ℕ) × (k < length cycle) × ((d : Wait) → All (λ w. (get_or cycle k d).waiter ≤ w.waiter) cycle) × (result ≡ drop k cycle ++ take k cycle) → IsReportable all result
found_told all cycle result h (k, lt, least, is) = rw is (IsReportable-turned all cycle k no_wait lt h.0 h.1 (least no_wait))

-- ---- the start and the end of a search

empty_walk : (walks : List (Vec Wait Global)) (v : ℕ) → v < length walks → All (λ (r : Vec Wait Global). r.items ≡ []) walks → walk_at walks v ≡ []
empty_walk [] v lt none = absurd (omega arith)
empty_walk (r ∷ walks) zero lt none = none 0 r (omega arith)
empty_walk (r ∷ walks) (suc v) lt none = empty_walk walks v (omega arith) (All-tail (λ (r : Vec Wait Global). r.items ≡ []) r walks none)

pub AreGiven-start : (n : ℕ) (all : List Wait) (heights : List ℕ) (walks : List (Vec Wait Global)) → heights ≡ replicate n 0 → length walks ≡ n →
    All (λ (r : Vec Wait Global). r.items ≡ []) walks → AreGiven n all heights walks
AreGiven-start n all heights walks same rows none = record {
  heights_counted = ap length same ∙ length-replicate n 0;
  walks_counted = rows;
  given = λ v lt. rw (empty_walk walks v (omega (arith, rows)) none) (given_at_start (rise_of n) at_zero (slice_index heights) all v (ap (λ xs. slice_index xs v) same ∙ zero_at n v));
}

pub Passes-relaxed : (n : ℕ) (heights : List ℕ) (potentials : List ℤ) (w : Wait) → length heights ≡ n → potentials ≡ map (λ (h : ℕ). pos h) heights →
    w.waiter < n → w.awaited < n → IsRelaxed n heights w → Passes n potentials w
Passes-relaxed n heights potentials w counted is u v h =
    let a : potential potentials w.waiter ≡ pos (get_or heights w.waiter 0) =
    rw is (get_or-map (λ (h : ℕ). pos h) heights w.waiter 0 (pos 0) (omega (arith, counted, u))) in
    let b : potential potentials w.awaited ≡ pos (get_or heights w.awaited 0) =
    rw is (get_or-map (λ (h : ℕ). pos h) heights w.awaited 0 (pos 0) (omega (arith, counted, v))) in
    omega (arith, ints, a, b, h.relaxed)

pub all_pass : (n : ℕ) (heights : List ℕ) (potentials : List ℤ) (all : List Wait) → length heights ≡ n → potentials ≡ map (λ (h : ℕ). pos h) heights →
    All (IsWithin n) all → All (IsRelaxed n heights) all → All (Passes n potentials) all
all_pass n heights potentials all counted is within relaxed k d lt =
    Passes-relaxed n heights potentials (get_or all k d) counted is (within k d lt).waiter (within k d lt).awaited (relaxed k d lt)

-- ---- heights that were lent

-- are read again as they were raised
pub read_again : (n len : ℕ) (now new old : List ℕ) (all : List Wait) (starts : ℕ → ℕ) → HaveWalks n all starts new → len ≡ length old → length old ≡ n →
    now ≡ take len (new ++ drop (length new) old) → now ≡ new
read_again n len now new old all starts h counted size read =
    read ∙ written_whole len new old (omega (arith, h.counted, size, counted)) (omega (arith, counted))

-- ---- potentials

each_potential : (P : ℤ → Type 0) (heights : List ℕ) (potentials : List ℤ) → potentials ≡ map (λ (h : ℕ). pos h) heights →
    All (λ h. h ≤ 0 + most_apps * greatest_rise) heights → ((h : ℕ) → h ≤ 0 + most_apps * greatest_rise → P (pos h)) → All P potentials
each_potential P heights potentials is low each =
    All-same P potentials _ is (All-map P (λ (h : ℕ). pos h) heights (All-weaker (λ h. h ≤ 0 + most_apps * greatest_rise) (λ h. P (pos h)) each heights low))

-- heights above 0 are potentials
pub near_zero : (n : ℕ) (all : List Wait) (starts : ℕ → ℕ) (heights : List ℕ) (potentials : List ℤ) → n ≤ most_apps → All (IsWithin n) all → HaveWalks n all starts heights →
    ((v : ℕ) → starts v ≤ 0) → potentials ≡ map (λ (h : ℕ). pos h) heights → All IsPotential potentials
near_zero n all starts heights potentials few within h low is =
    each_potential IsPotential heights potentials is (heights_from_zero n all starts heights few within h low)
    (λ h le. record { from = omega (arith, ints); to = omega (arith, ints, le) })

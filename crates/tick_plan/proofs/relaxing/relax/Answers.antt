use Rattle.std.proofs.Common.{◌≡◌, ◌≢◌, ℕ, ◌+◌, ◌<◌, ◌≤◌, ◌∷◌, ◌+ℤ◌, pos, take, length, All, slice_index, slice_index_or, slice_set, List, Vec, ap, ◌∙◌, arith}
use Rattle.std.specs.List.{Contains}
use Rattle.std.specs.declared.alloc.Global.{Global}
use Rattle.std.proofs.lemmas.List.{get_or_default}
use Rattle.scene_model.specs.Cover.{IsWithin, IsUncovered, WaitsOnce}
use Rattle.scene_model.specs.Limits.{most_apps}
use Rattle.scene_model.specs.declared.wait.Wait.{Wait}
use Rattle.tick_plan.specs.Heights.{rise_of, AreGiven, at_zero, walk_at, gap_of}
use Rattle.tick_plan.proofs.Searching.{heights_low, is_one, HaveWalks-given, walk_at_read, found_cycle, found_told, AreGiven-raised, gap_of-raised}
use Rattle.tick_plan.proofs.relaxing.relax.Goals as goal

pub raised_height-requires-clause-low : goal.raised_height-requires-clause-low
raised_height-requires-clause-low c = rw c.deref.ensures.value (heights_low _ _ _ _ c.requires.few c.requires.within (HaveWalks-given _ _ _ _ c.requires.search))

pub raised_height-requires-clause-counted : goal.raised_height-requires-clause-counted
raised_height-requires-clause-counted c = ap length c.deref.ensures.value ∙ c.requires.search.heights_counted

pub returns-in_default-clause-relaxed : goal.returns-in_default-clause-relaxed
returns-in_default-clause-relaxed c = λ d.
    let here = c.index-waits-at.is ∙ get_or_default c.args.waits.now c.args.at c.index-waits-at.result d c.requires.at in
    rw (c.deref.ensures.value, here) at c.in_default.ensures.relaxed

-- the walk that was read, behind it
joined_is : (n : ℕ) (all : List Wait) (heights : List ℕ) (walks : List (Vec Wait Global)) (e : Wait) (v : ℕ) (row : Vec Wait Global) (rest whole : List Wait) →
    AreGiven n all heights walks → IsWithin n e → v ≡ e.awaited → row ≡ slice_index_or walks v row → rest ≡ row.items → whole ≡ e ∷ rest →
    whole ≡ e ∷ walk_at walks e.awaited
joined_is n all heights walks e v row rest whole h within v_is read same joined =
    let row_is = walk_at_read walks e.awaited row (omega (arith, within.awaited, h.walks_counted)) (rw v_is at read) in
    cc (row_is, same, joined)

found : (n : ℕ) (all : List Wait) (heights : List ℕ) (walks : List (Vec Wait Global)) (e : Wait) (v : ℕ) (hs : List ℕ) (height last : ℕ) (row : Vec Wait Global) (rest whole whole' cut : List Wait) →
    All (IsWithin n) all → Contains all e × IsWithin n e → AreGiven n all heights walks → v ≡ e.awaited → hs ≡ heights →
    pos height ≡ rise_of n e +ℤ pos (slice_index hs e.awaited) → slice_index hs e.waiter < height →
    row ≡ slice_index_or walks v row → rest ≡ row.items → whole ≡ e ∷ rest →
    whole' ≡ whole → last < length whole' → ((d : Wait) → (slice_index_or whole' last d).awaited ≡ e.waiter) →
    cut ≡ take (last + 1) whole → IsUncovered all cut × WaitsOnce cut
found n all heights walks e v hs height last row rest whole whole' cut within one h v_is hs_is is higher read same joined whole_is last_lt back cut_is =
    rw (cut_is) (found_cycle n all heights walks e height last whole e within h one.1 one.0
    (rw hs_is at is) (rw hs_is at higher) (joined_is n all heights walks e v row rest whole h one.1 v_is read same joined)
    (rw whole_is at last_lt) (rw whole_is at (back e)))

pub from_least-requires : goal.from_least-requires
from_least-requires c =
    (found _ _ _ _ _ _ _ _ _ _ _ _ _ _ c.requires.within (is_one _ _ _ _ c.requires.at c.requires.within c.index-waits-at.is) c.requires.search
    (ap (λ (w : Wait). w.awaited) c.wait.view_is) c.deref.ensures.value
    c.in-Some.ensures.height c.in-Some.ensures.higher c.index.ensures c.deref-2.ensures.value c.in_ok-walk.ensures c.deref-3.ensures.value
    c.in-Some-place_awaited.ensures.within c.in-Some-place_awaited.ensures.found c.truncate.ensures.items).0.cycle_of.closed

pub returns-in-Some-place_awaited-clause-uncovered :
    goal.returns-in-Some-place_awaited-clause-uncovered
returns-in-Some-place_awaited-clause-uncovered c =
    found_told _ _ _ (found _ _ _ _ _ _ _ _ _ _ _ _ _ _ c.requires.within (is_one _ _ _ _ c.requires.at c.requires.within c.index-waits-at.is) c.requires.search
    (ap (λ (w : Wait). w.awaited) c.wait.view_is) c.deref.ensures.value
    c.in-Some.ensures.height c.in-Some.ensures.higher c.index.ensures c.deref-2.ensures.value c.in_ok-walk.ensures c.deref-3.ensures.value
    c.in-Some-place_awaited.ensures.within c.in-Some-place_awaited.ensures.found c.truncate.ensures.items)
    c.from_least.ensures

given_after : (n : ℕ) (all : List Wait) (heights : List ℕ) (walks : List (Vec Wait Global)) (e : Wait) (u v : ℕ) (hs : List ℕ) (height : ℕ) (row : Vec Wait Global) (rest : List Wait) (whole : Vec Wait Global) (whole' : List Wait) →
    Contains all e × IsWithin n e → AreGiven n all heights walks → u ≡ e.waiter → v ≡ e.awaited → hs ≡ heights →
    pos height ≡ rise_of n e +ℤ pos (slice_index hs e.awaited) → slice_index hs e.waiter < height →
    row ≡ slice_index_or walks v row → rest ≡ row.items → whole.items ≡ e ∷ rest →
    whole' ≡ whole.items → All (λ w. w.awaited ≢ e.waiter) whole' →
    AreGiven n all (slice_set heights u height) (slice_set walks u whole)
given_after n all heights walks e u v hs height row rest whole whole' one h u_is v_is hs_is is higher read same joined whole_is none =
    rw u_is (AreGiven-raised n all heights walks e height whole h one.1 one.0 (rw hs_is at is) (rw hs_is at higher)
    (joined_is n all heights walks e v row rest whole.items h one.1 v_is read same joined) (rw whole_is at none))

pub returns-clause-search : goal.returns-clause-search
returns-clause-search c =
    given_after _ _ _ _ _ _ _ _ _ _ _ _ _ (is_one _ _ _ _ c.requires.at c.requires.within c.index-waits-at.is) c.requires.search
    (ap (λ (w : Wait). w.waiter) c.wait.view_is) (ap (λ (w : Wait). w.awaited) c.wait.view_is) c.deref.ensures.value
    c.in-Some.ensures.height c.in-Some.ensures.higher c.index.ensures c.deref-2.ensures.value c.in_ok-walk.ensures c.deref-3.ensures.value c.in_default-place_awaited.ensures.none

raised_after : (n : ℕ) (all : List Wait) (heights : List ℕ) (walks : List (Vec Wait Global)) (e : Wait) (u : ℕ) (hs : List ℕ) (height : ℕ) (rows : List (Vec Wait Global)) →
    n ≤ most_apps → All (IsWithin n) all → IsWithin n e → AreGiven n all heights walks → u ≡ e.waiter → hs ≡ heights → slice_index hs e.waiter < height →
    AreGiven n all (slice_set heights u height) rows → gap_of (slice_set heights u height) < gap_of heights
raised_after n all heights walks e u hs height rows few within one h u_is hs_is higher after =
    gap_of-raised n all at_zero heights e height few within h.heights_counted one.waiter (rw hs_is at higher) (slice_set heights u height) (ap (λ x. slice_set heights x height) u_is) (HaveWalks-given n all (slice_set heights u height) rows after)

pub returns-clause-raised : goal.returns-clause-raised
returns-clause-raised c =
    raised_after _ _ _ _ _ _ _ _ _ c.requires.few c.requires.within (is_one _ _ _ _ c.requires.at c.requires.within c.index-waits-at.is).1 c.requires.search
    (ap (λ (w : Wait). w.waiter) c.wait.view_is) c.deref.ensures.value c.in-Some.ensures.higher
    (given_after _ _ _ _ _ _ _ _ _ _ _ c.in_ok-walk.walk _ (is_one _ _ _ _ c.requires.at c.requires.within c.index-waits-at.is) c.requires.search
    (ap (λ (w : Wait). w.waiter) c.wait.view_is) (ap (λ (w : Wait). w.awaited) c.wait.view_is) c.deref.ensures.value
    c.in-Some.ensures.height c.in-Some.ensures.higher c.index.ensures c.deref-2.ensures.value c.in_ok-walk.ensures c.deref-3.ensures.value c.in_default-place_awaited.ensures.none)

-- Rows that were merged so far.
use Rattle.std.proofs.Common.{◌≡◌, ◌≢◌, ℕ, Some, zero, suc, ◌+◌, ◌<◌, ◌≤◌, true, false, not, List, [], ◌∷◌, ◌++◌, map, length, length-append, refl, sym, ap, subst, ◌∙◌, inl, inr, append_assoc, append-nil, arith}
use Rattle.std.specs.Prelude.{get_or, slice_set}
use Rattle.std.specs.List.{AllByRecursion, filter, flat_map}
use Rattle.std.specs.Ordering.{is_gt}
use Rattle.std.proofs.lemmas.Bool.{leb-true, le-leb, lt-ltb, le-ltb, eq-eqb, ne_eqb, cases_order}
use Rattle.music_base.specs.Numbers.{in_order}
use Rattle.music_base.proofs.Lists.{All-weaker}
use Rattle.scene_model.specs.Logs.{row_cmp}
use Rattle.scene_model.specs.declared.row.Row.{Row}
use Rattle.run_logs.specs.Merging.{AreMergedOn, AreMoved, AreRowsOf, QueuedRows, NoneBefore, StandInOrder, begins_from, first_clock, is_before, is_kept, lower_of, rows_of}
use Rattle.run_logs.proofs.Held.{rows_set}
use Rattle.run_logs.proofs.Nexts.{IsPassed, one_passed}
use Rattle.run_logs.proofs.Merges.{AfterAll, All-both, kept_same, stand_behind, step_in_front}

-- ---- the order of two rows

after_by_clock : (x y : Row) → y.clock < x.clock → is_gt (row_cmp x y) ≡ true
after_by_clock x y lt = rw (le-ltb x.clock y.clock (omega arith), ne_eqb x.clock y.clock (λ e. omega arith)) refl

not_after_by_clock : (x y : Row) → x.clock < y.clock → is_gt (row_cmp x y) ≡ false
not_after_by_clock x y lt = rw (lt-ltb x.clock y.clock lt) refl

not_after_by_app : (x y : Row) → x.clock ≡ y.clock → x.app < y.app → is_gt (row_cmp x y) ≡ false
not_after_by_app x y e lt = rw (le-ltb x.clock y.clock (omega arith), eq-eqb x.clock y.clock e, lt-ltb x.app y.app lt) refl

clock_ascends : (x y : Row) → is_gt (row_cmp x y) ≡ false → x.clock ≤ y.clock
clock_ascends x y not_after = elim (cases_order x.clock y.clock) [
  | inl e ↦ omega arith
  | inr other ↦ elim other [
    | inl lt ↦ omega arith
    | inr gt ↦ let after : is_gt (row_cmp x y) ≡ true = after_by_clock x y gt in cc
  ]
]

-- rows in order have the clock of the first at least
all_from : (clock : ℕ) (rows : List Row) → StandInOrder row_cmp rows → begins_from clock rows ≡ true → AllByRecursion (λ row. clock ≤ row.clock) rows
all_from clock [] order from = tt
all_from clock (row ∷ rows) order from =
    let le : clock ≤ row.clock = leb-true clock row.clock from in
    (le, All-weaker (λ later. is_gt (row_cmp row later) ≡ false) (λ later. clock ≤ later.clock) (λ later not_after. let up = clock_ascends row later not_after in omega arith) rows order.0)

begins_at_all : (clock : ℕ) (rows : List Row) → AllByRecursion (λ row. clock ≤ row.clock) rows → begins_from clock rows ≡ true
begins_at_all clock [] from = refl
begins_at_all clock (row ∷ rows) from = le-leb clock row.clock from.0

-- ---- what comes first

module _ (held : List (List Row)) (least place clock next : ℕ) (passed : IsPassed clock least place next held) (rows : (b : ℕ) → AreRowsOf b (rows_of held b))
    (step : List Row) (same : AllByRecursion (λ row. row.clock ≡ clock) step) where
  above_after : (i : ℕ) → i < place → AllByRecursion (AfterAll row_cmp step) (rows_of held i)
  above_after i lt =
      All-weaker (λ row. clock + 1 ≤ row.clock) (AfterAll row_cmp step)
      (λ row le. All-weaker (λ x. x.clock ≡ clock) (λ x. is_gt (row_cmp row x) ≡ true) (λ x e. after_by_clock row x (omega arith)) step same)
      (rows_of held i) (all_from (clock + 1) (rows_of held i) (rows i).order (passed.earlier i lt))

  under_not_before : (own : AllByRecursion (λ row. row.app ≡ place) step) (i : ℕ) → place < i → AllByRecursion (NoneBefore row_cmp (rows_of held i)) step
  under_not_before own i lt =
      let from : AllByRecursion (λ row. clock ≤ row.clock) (rows_of held i) = all_from clock (rows_of held i) (rows i).order (passed.first i) in
      All-both (λ row. row.clock ≡ clock) (λ row. row.app ≡ place) (NoneBefore row_cmp (rows_of held i))
      (λ x at of_place. All-both (λ y. clock ≤ y.clock) (λ y. y.app ≡ i) (λ y. is_gt (row_cmp x y) ≡ false) (λ y le of_i. elim (cases_order clock y.clock) [
        | inl e ↦ not_after_by_app x y (omega arith) (omega arith)
        | inr other ↦ elim other [
          | inl below ↦ not_after_by_clock x y (omega arith)
          | inr over ↦ absurd (omega arith)
        ]
      ]) (rows_of held i) from (rows i).own)
      step same own

-- ---- one step more

-- rows went on from what was held to what was released, and what is held stands as before
pub record IsMergedTo (least : ℕ) (first held : List (List Row)) (before after : List Row) : Type 0 where
  pub on : AreMergedOn least first held before after
  pub rows : (b : ℕ) → AreRowsOf b (rows_of held b)

pub none_merged : (least : ℕ) (held : List (List Row)) (before : List Row) → ((b : ℕ) → AreRowsOf b (rows_of held b)) → IsMergedTo least held held before before
none_merged least held before rows = record { on = record { released = refl; kept = refl }; rows = rows }

-- one after the other
pub merged_on : (least : ℕ) (first between held : List (List Row)) (before amid after : List Row) → AreMergedOn least first between before amid
    → AreMergedOn least between held amid after → AreMergedOn least first held before after
merged_on least first between held before amid after one other = record { released = other.released ∙ one.released; kept = other.kept ∙ one.kept }

own_front : (b : ℕ) (step rest : List Row) → AllByRecursion (λ row. row.app ≡ b) (step ++ rest) → AllByRecursion (λ row. row.app ≡ b) step
own_front b [] rest own = tt
own_front b (row ∷ step) rest own = (own.0, own_front b step rest own.1)

All-back : (P : Row → Type 0) (step rest : List Row) → AllByRecursion P (step ++ rest) → AllByRecursion P rest
All-back P [] rest all = all
All-back P (row ∷ step) rest all = All-back P step rest all.1

set_rows : (held : List (List Row)) (place : ℕ) (step rest : List Row) → place < length held → rows_of held place ≡ step ++ rest
    → ((b : ℕ) → AreRowsOf b (rows_of held b)) → (b : ℕ) → AreRowsOf b (rows_of (slice_set held place rest) b)
set_rows held place step rest lt is rows = rows_set held place rest lt left rows
  where
    there : AreRowsOf place (step ++ rest)
    there = subst (AreRowsOf place) is (rows place)

    left : AreRowsOf place rest
    left = record { own = All-back (λ row. row.app ≡ place) step rest there.own; order = stand_behind row_cmp step rest there.order }

pub step_merged : (least place clock next : ℕ) (first held : List (List Row)) (rest before between after : List Row) → clock < least → place < length held
    → IsPassed clock least place next held → AreMoved clock (rows_of held place) rest between after
    → IsMergedTo least first held before between → IsMergedTo least first (slice_set held place rest) before after
step_merged least place clock next first held rest before between after below within passed moved so_far = record {
  on = record {
    released = rw moved.moved (append_assoc between moved.step (in_order row_cmp (flat_map (filter (is_before least)) (slice_set held place rest)))
        ∙ ap (λ rows. between ++ rows) (sym front) ∙ so_far.on.released);
    kept = kept_same (is_kept least) held place moved.step rest within moved.split dropped ∙ so_far.on.kept;
  };
  rows = set_rows held place moved.step rest within moved.split so_far.rows;
}
  where
    there : AreRowsOf place (moved.step ++ rest)
    there = subst (AreRowsOf place) moved.split (so_far.rows place)

    gone : AllByRecursion (λ row. is_before least row ≡ true) moved.step
    gone = All-weaker (λ row. row.clock ≡ clock) (λ row. is_before least row ≡ true) (λ row e. lt-ltb row.clock least (omega arith)) moved.step moved.same

    dropped : AllByRecursion (λ row. is_kept least row ≡ false) moved.step
    dropped = All-weaker (λ row. is_before least row ≡ true) (λ row. is_kept least row ≡ false) (λ row e. ap not e) moved.step gone

    front : in_order row_cmp (flat_map (filter (is_before least)) held) ≡ moved.step ++ in_order row_cmp (flat_map (filter (is_before least)) (slice_set held place rest))
    front = step_in_front row_cmp (is_before least) held place moved.step rest within moved.split gone there.order
        (above_after held least place clock next passed so_far.rows moved.step moved.same)
        (under_not_before held least place clock next passed so_far.rows moved.step moved.same (own_front place moved.step rest there.own))

-- what is left of an application whose rows of the clock were moved
pub step_passed : (least place clock next : ℕ) (held : List (List Row)) (rest before after : List Row) → place < length held
    → AreRowsOf place (rows_of held place) → AreMoved clock (rows_of held place) rest before after → first_clock rest ≢ Some clock
    → IsPassed clock least place next held → IsPassed clock least (place + 1) (lower_of next (first_clock rest)) (slice_set held place rest)
step_passed least place clock next held rest before after within rows moved left passed =
    one_passed clock least place next held rest within (begins_at_all clock rest from_clock) left passed
  where
    from_clock : AllByRecursion (λ row. clock ≤ row.clock) rest
    from_clock = All-back (λ row. clock ≤ row.clock) moved.step rest (subst (AllByRecursion (λ row. clock ≤ row.clock)) moved.split (all_from clock (rows_of held place) rows.order (passed.first place)))

-- ---- the end

-- where no row of any application is below `least`
none_before : (least : ℕ) (rows : List Row) → AllByRecursion (λ row. least ≤ row.clock) rows → filter (is_before least) rows ≡ []
none_before least [] from = refl
none_before least (row ∷ rows) from = rw (le-ltb row.clock least from.0) (none_before least rows from.1)

all_kept : (least : ℕ) (rows : List Row) → AllByRecursion (λ row. least ≤ row.clock) rows → filter (is_kept least) rows ≡ rows
all_kept least [] from = refl
all_kept least (row ∷ rows) from = rw (le-ltb row.clock least from.0) (ap (λ xs. row ∷ xs) (all_kept least rows from.1))

none_left : (least : ℕ) (held : List (List Row)) → ((b : ℕ) → AllByRecursion (λ row. least ≤ row.clock) (rows_of held b)) → flat_map (filter (is_before least)) held ≡ []
none_left least [] from = refl
none_left least (rows ∷ held) from = rw (none_before least rows (from 0)) (none_left least held (λ b. from (suc b)))

rest_kept : (least : ℕ) (held : List (List Row)) → ((b : ℕ) → AllByRecursion (λ row. least ≤ row.clock) (rows_of held b)) → map (filter (is_kept least)) held ≡ held
rest_kept least [] from = refl
rest_kept least (rows ∷ held) from = rw (all_kept least rows (from 0)) (ap (λ xs. rows ∷ xs) (rest_kept least held (λ b. from (suc b))))

-- what a merge ends with
pub record IsMerged (least : ℕ) (first held : List (List Row)) (before after : List Row) : Type 0 where
  pub released : after ≡ before ++ in_order row_cmp (flat_map (filter (is_before least)) first)
  pub kept : held ≡ map (filter (is_kept least)) first

pub all_merged : (least : ℕ) (first held : List (List Row)) (before after : List Row) → ((i : ℕ) → begins_from least (rows_of held i) ≡ true)
    → IsMergedTo least first held before after → IsMerged least first held before after
all_merged least first held before after past so_far = record {
  released = sym (append-nil after) ∙ ap (λ rows. after ++ in_order row_cmp rows) (sym (none_left least held from)) ∙ so_far.on.released;
  kept = sym (rest_kept least held from) ∙ so_far.on.kept;
}
  where
    from : (b : ℕ) → AllByRecursion (λ row. least ≤ row.clock) (rows_of held b)
    from b = all_from least (rows_of held b) (so_far.rows b).order (past b)

-- ---- room

-- fewer rows are held where some were moved
pub fewer_held : (held : List (List Row)) (place : ℕ) (step rest : List Row) → place < length held → rows_of held place ≡ step ++ rest
    → length (flat_map (λ rows. rows) held) ≡ length step + length (flat_map (λ rows. rows) (slice_set held place rest))
fewer_held [] place step rest lt is = absurd (omega arith)
fewer_held (rows ∷ held) zero step rest lt is =
    rw (length-append rows (flat_map (λ rows. rows) held), length-append rest (flat_map (λ rows. rows) held)) (omega (arith, ap length is, length-append step rest))
fewer_held (rows ∷ held) (suc place) step rest lt is =
    rw (length-append rows (flat_map (λ rows. rows) held), length-append rows (flat_map (λ rows. rows) (slice_set held place rest))) (omega (arith, fewer_held held place step rest (omega arith) is))

-- a queue that has as much room as before
pub room_same : (queues : List QueuedRows) (place : ℕ) (queue past : QueuedRows) → queue.spare ≡ (get_or queues place past).spare
    → map (λ queue. queue.spare) (slice_set queues place queue) ≡ map (λ queue. queue.spare) queues
room_same [] place queue past same = refl
room_same (q ∷ queues) zero queue past same = ap (λ spare. spare ∷ map (λ queue. queue.spare) queues) same
room_same (q ∷ queues) (suc place) queue past same = ap (λ spares. q.spare ∷ spares) (room_same queues place queue past same)

-- The least clock of the first rows.
use Rattle.std.proofs.Common.{◌≡◌, ◌≢◌, ◌⊎◌, ℕ, zero, suc, ◌+◌, ◌<◌, ◌≤◌, true, min, List, [], ◌∷◌, ◌++◌, length, take, get_or, refl, sym, ap, subst, ◌∙◌, inl, inr, None, Some, arith}
use Rattle.std.specs.Prelude.{Option, slice_set}
use Rattle.std.proofs.lemmas.Bool.{leb-true, le-leb, cases_order}
use Rattle.std.proofs.lemmas.List.{get_or-set_same, get_or-set_other, map-append, take_more, take_more_set}
use Rattle.scene_model.specs.declared.row.Row.{Row}
use Rattle.run_logs.specs.Merging.{QueuedRows, begins_from, first_clock, held_by, least_front, lower_of, rows_of}

begins_sooner : (low high : ℕ) (rows : List Row) → low ≤ high → begins_from high rows ≡ true → begins_from low rows ≡ true
begins_sooner low high [] le from = refl
begins_sooner low high (row ∷ rows) le from = le-leb low row.clock (omega (arith, leb-true high row.clock from))

lower_le : (bound : ℕ) (clock : Option ℕ) → lower_of bound clock ≤ bound
lower_le bound None = omega arith
lower_le bound (Some clock) = omega arith

begins_from_lower : (bound : ℕ) (rows : List Row) → begins_from (lower_of bound (first_clock rows)) rows ≡ true
begins_from_lower bound [] = refl
begins_from_lower bound (row ∷ rows) = le-leb (min bound row.clock) row.clock (omega arith)

least_le : (bound : ℕ) (held : List (List Row)) → least_front bound held ≤ bound
least_le bound [] = omega arith
least_le bound (rows ∷ held) = omega (arith, least_le (lower_of bound (first_clock rows)) held, lower_le bound (first_clock rows))

-- the rows of no application begin below it
pub all_begin_from : (bound : ℕ) (held : List (List Row)) (i : ℕ) → begins_from (least_front bound held) (rows_of held i) ≡ true
all_begin_from bound [] i = refl
all_begin_from bound (rows ∷ held) zero =
    let lower = lower_of bound (first_clock rows) in
    begins_sooner (least_front lower held) lower rows (least_le lower held) (begins_from_lower bound rows)
all_begin_from bound (rows ∷ held) (suc i) = all_begin_from (lower_of bound (first_clock rows)) held i

-- where it is no lower than the bound
pub all_begin_later : (bound clock : ℕ) (held : List (List Row)) → clock ≡ least_front bound held → bound ≤ clock → (i : ℕ) → begins_from bound (rows_of held i) ≡ true
all_begin_later bound clock held is le i = begins_sooner bound (least_front bound held) (rows_of held i) (omega arith) (all_begin_from bound held i)

-- one application more
pub least_more : (bound : ℕ) (held : List (List Row)) (rows : List Row) → least_front bound (held ++ rows ∷ []) ≡ lower_of (least_front bound held) (first_clock rows)
least_more bound [] rows = refl
least_more bound (others ∷ held) rows = least_more (lower_of bound (first_clock others)) held rows

-- ---- a clock whose rows are moved, application by application

-- No application has rows before this clock, and the first ones none at this clock any more: `next` is the least clock that
-- they have, or the bound.
pub record IsPassed (clock least place next : ℕ) (held : List (List Row)) : Type 0 where
  pub first : (i : ℕ) → begins_from clock (rows_of held i) ≡ true
  pub earlier : (i : ℕ) → i < place → begins_from (clock + 1) (rows_of held i) ≡ true
  pub is_next : next ≡ least_front least (take place held)
  pub above : clock < next

pub none_passed : (clock least : ℕ) (held : List (List Row)) → clock < least → ((i : ℕ) → begins_from clock (rows_of held i) ≡ true) → IsPassed clock least 0 least held
none_passed clock least held below first = record { first = first; earlier = λ i lt. absurd (omega arith); is_next = refl; above = below }

begins_later : (clock : ℕ) (rows : List Row) → begins_from clock rows ≡ true → first_clock rows ≢ Some clock → begins_from (clock + 1) rows ≡ true
begins_later clock [] from left = refl
begins_later clock (row ∷ rows) from left =
    let le : clock ≤ row.clock = leb-true clock row.clock from in
    elim (cases_order clock row.clock) [
      | inl e ↦ absurd (left (ap Some (sym e)))
      | inr other ↦ elim other [
        | inl below ↦ le-leb (clock + 1) row.clock (omega arith)
        | inr above ↦ absurd (omega arith)
      ]
    ]

stays_above : (clock bound : ℕ) (rows : List Row) → clock < bound → begins_from (clock + 1) rows ≡ true → clock < lower_of bound (first_clock rows)
stays_above clock bound [] lt from = lt
stays_above clock bound (row ∷ rows) lt from = let le : clock + 1 ≤ row.clock = leb-true (clock + 1) row.clock from in omega arith

pub one_passed : (clock least place next : ℕ) (held : List (List Row)) (rest : List Row) → place < length held
    → begins_from clock rest ≡ true → first_clock rest ≢ Some clock
    → IsPassed clock least place next held → IsPassed clock least (place + 1) (lower_of next (first_clock rest)) (slice_set held place rest)
one_passed clock least place next held rest within from left passed = record {
  first = λ i. first_at i (cases_order i place);
  earlier = λ i lt. earlier_at i lt (cases_order i place);
  is_next = ap (λ bound. lower_of bound (first_clock rest)) passed.is_next ∙ sym (least_more least (take place held) rest) ∙ ap (least_front least) (sym (take_more_set held place rest within));
  above = stays_above clock next rest passed.above later;
}
  where
    later : begins_from (clock + 1) rest ≡ true
    later = begins_later clock rest from left

    there : (bound : ℕ) → begins_from bound rest ≡ true → (i : ℕ) → i ≡ place → begins_from bound (rows_of (slice_set held place rest) i) ≡ true
    there bound at i e = subst (λ j. begins_from bound (rows_of (slice_set held place rest) j) ≡ true) (sym e) (ap (begins_from bound) (get_or-set_same held place rest [] within) ∙ at)

    elsewhere : (bound i : ℕ) → i ≢ place → begins_from bound (rows_of held i) ≡ true → begins_from bound (rows_of (slice_set held place rest) i) ≡ true
    elsewhere bound i ne at = ap (begins_from bound) (get_or-set_other held place i rest [] ne) ∙ at

    first_at : (i : ℕ) → ((i ≡ place) ⊎ ((i < place) ⊎ (place < i))) → begins_from clock (rows_of (slice_set held place rest) i) ≡ true
    first_at i (inl e) = there clock from i e
    first_at i (inr (inl below)) = elsewhere clock i (λ e. omega arith) (passed.first i)
    first_at i (inr (inr above)) = elsewhere clock i (λ e. omega arith) (passed.first i)

    earlier_at : (i : ℕ) → i < place + 1 → ((i ≡ place) ⊎ ((i < place) ⊎ (place < i))) → begins_from (clock + 1) (rows_of (slice_set held place rest) i) ≡ true
    earlier_at i lt (inl e) = there (clock + 1) later i e
    earlier_at i lt (inr (inl below)) = elsewhere (clock + 1) i (λ e. omega arith) (passed.earlier i below)
    earlier_at i lt (inr (inr above)) = absurd (omega arith)

-- ---- the same of queues

pub rows_in : (queues : List QueuedRows) (i : ℕ) (past : QueuedRows) → i < length queues → rows_of (held_by queues) i ≡ (get_or queues i past).rows
rows_in [] i past lt = absurd (omega arith)
rows_in (q ∷ queues) zero past lt = refl
rows_in (q ∷ queues) (suc i) past lt = rows_in queues i past (omega arith)

pub rows_at : (queues : List QueuedRows) (i : ℕ) (queue : QueuedRows) → i < length queues → queue ≡ get_or queues i queue
    → rows_of (held_by queues) i ≡ queue.rows
rows_at queues i queue lt is = rows_in queues i queue lt ∙ sym (ap (λ (q : QueuedRows). q.rows) is)

-- the least clock of one queue more
pub least_of_more : (bound : ℕ) (queues : List QueuedRows) (i : ℕ) (queue : QueuedRows) → i < length queues → queue ≡ get_or queues i queue
    → least_front bound (held_by (take (i + 1) queues)) ≡ lower_of (least_front bound (held_by (take i queues))) (first_clock queue.rows)
least_of_more bound queues i queue lt is =
    ap (λ qs. least_front bound (held_by qs)) (take_more queues i queue lt ∙ ap (λ q. take i queues ++ q ∷ []) (sym is))
    ∙ ap (least_front bound) (map-append (λ (q : QueuedRows). q.rows) (take i queues) (queue ∷ []))
    ∙ least_more bound (held_by (take i queues)) queue.rows

-- A reader or a writer of which the errors are counted.
use Rattle.std.specs.Prelude.{ℕ, Result, Ok, Err, refl, if◌then◌else◌, nat_eq, not, ◌&&◌}
use Rattle.std.specs.Coded.{Coded, code_by, coded×, coded_ℕ}
use Rattle.music_base.specs.declared.errors.Failed.{Failed}

-- the reader or writer, and how often it failed
pub record Counting (A : Type 0) : Type 0 where
  pub inner : A
  pub faults : ℕ

-- it is stored as the pair of its fields
abbrev pub counting_code : {A : Type 0} → Coded A → Coded (Counting A)
counting_code {A = A} inner =
    code_by (A × ℕ) (coded× inner coded_ℕ) (λ c. (c.inner, c.faults)) (λ p. record { inner = p.0; faults = p.1 }) (λ _. refl)

-- what a reader or a writer answers, with each error of it as a failure
abbrev pub or_failed : {A E : Type 0} → Result A E → Result A Failed
or_failed (Ok a) = Ok a
or_failed (Err e) = Err (record {})

-- of so many bytes that were offered, how many a writer took: a write that takes nothing of a piece that is not empty is a
-- failure too
abbrev pub written : {E : Type 0} → ℕ → Result ℕ E → Result ℕ Failed
written offered (Ok count) = if nat_eq count 0 && not (nat_eq offered 0) then Err (record {}) else Ok count
written offered (Err e) = Err (record {})

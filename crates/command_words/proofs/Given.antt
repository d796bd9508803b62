-- What is given to the two options, on both sides: by the definition, and in the rows of `clap`'s matches. Where a lemma
-- serves either option, `true` stands for `--workers` and `false` for `--number`.
use Rattle.std.proofs.Common.{◌≡◌, ◌∙◌, ℕ, Bool, true, false, cond, List, [], ◌∷◌, ◌++◌, Option, Some, None, is_some, length, ap, sym, refl, subst, true≢false, codes, ◌||◌, ◌&&◌, nat_le}
use Rattle.std.specs.Prelude.{slice_get, option_and_then, bytes_eq, find}
use Rattle.std.specs.Str.Parse.{digits_value}
use Rattle.clap.specs.Walk.{Row, Rule, Text, first_of, has_row, used, without, at_row, with_values, reading_by, more_values}
use Rattle.clap.specs.Simple.{new_rule}
use Rattle.clap.specs.Faults.{use_fault}
use Rattle.clap.specs.declared.builder.action.ArgAction.TheVariants.{Set}
use Rattle.clap.specs.declared.builder.value_parser.ValueParser.TheVariants as vp
use Rattle.clap.specs.declared.parser.matches.ValueSource.TheVariants.{CommandLine}
use Rattle.clap.specs.declared.error.kind.ErrorKind.TheVariants as kind
use Rattle.command_words.specs.Words.{Options, with_workers, with_number, number_within}
use Rattle.command_words.specs.declared.limits.TheConstants.{GREATEST_NUMBER, LEAST_WORKERS, MOST_DIGITS, MOST_WORKERS}
use Rattle.command_words.proofs.Faulty.{IsFault}

-- ---- the two options

abbrev pub id_of : Bool → Text
id_of true = codes "workers"
id_of false = codes "number"

abbrev pub single : Bool → Text
single true = codes "--workers"
single false = codes "--number"

abbrev pub joint : Bool → Text → Text
joint true v = codes "--workers=" ++ v
joint false v = codes "--number=" ++ v

abbrev pub get : Bool → Options → Option Text
get true o = o.workers
get false o = o.number

abbrev pub set : Bool → Options → Text → Options
set true o v = record { workers = Some v; number = o.number }
set false o v = record { workers = o.workers; number = Some v }

abbrev pub put : Bool → Options → Text → Option Options
put true o v = with_workers o v
put false o v = with_number o v

abbrev pub number_for : Bool → Text → Option ℕ
number_for true v = number_within LEAST_WORKERS MOST_WORKERS v
number_for false v = number_within 0 GREATEST_NUMBER v

pub put_none : (which : Bool) (o : Options) (v : Text) → get which o ≡ None → put which o v ≡ Some (set which o v)
put_none true o v e = rw e refl
put_none false o v e = rw e refl

pub put_some : (which : Bool) (o : Options) (v u : Text) → get which o ≡ Some u → put which o v ≡ None
put_some true o v u e = rw e refl
put_some false o v u e = rw e refl

pub get_set : (which : Bool) (o : Options) (v : Text) → get which (set which o v) ≡ Some v
get_set true o v = refl
get_set false o v = refl

-- ---- rows

pub record Shows (rows : List Row) (o : Options) : Type 0 where
  pub has : (which : Bool) → has_row (id_of which) rows ≡ is_some (get which o)
  pub first : (which : Bool) → first_of (id_of which) rows ≡ get which o

abbrev pub built_option : Text → Rule
built_option id = record (new_rule id) {
  long = Some id;
  action = Some Set;
  range = Some (record { start_inclusive = 1; end_inclusive = 1 });
  parser = Some vp.String;
}

abbrev row_for : Text → Text → Row
row_for id v = record { id = id; values = v ∷ []; count = None; source = Some CommandLine; reading = reading_by (built_option id) }

abbrev no_rows : Row → List Row
no_rows r = []

without_none : (id : Text) (rows : List Row) → has_row id rows ≡ false → without id rows ≡ rows
without_none id [] e = refl
without_none id (r ∷ rs) e = go (bytes_eq r.id id) e (without_none id rs)
  where
    go : (b : Bool) → (b || has_row id rs) ≡ false → (has_row id rs ≡ false → without id rs ≡ rs) → cond b (no_rows r ++ rs) (r ∷ without id rs) ≡ r ∷ rs
    go true f more = absurd (true≢false f)
    go false f more = ap (λ xs. r ∷ xs) (more f)

added_row : (id : Text) (change : Row → List Row) (new : List Row) (rows : List Row) → has_row id rows ≡ false → at_row id change new rows ≡ rows ++ new
added_row id change new [] e = refl
added_row id change new (r ∷ rs) e = go (bytes_eq r.id id) e (added_row id change new rs)
  where
    go : (b : Bool) → (b || has_row id rs) ≡ false → (has_row id rs ≡ false → at_row id change new rs ≡ rs ++ new)
        → cond b (change r ++ rs) (r ∷ at_row id change new rs) ≡ r ∷ (rs ++ new)
    go true f more = absurd (true≢false f)
    go false f more = ap (λ xs. r ∷ xs) (more f)

used_once : (id v : Text) (rows : List Row) → has_row id rows ≡ false → used (built_option id) (v ∷ []) rows ≡ rows ++ row_for id v ∷ []
used_once id v rows e =
    ap (with_values id (reading_by (built_option id)) CommandLine (v ∷ [])) (without_none id rows e) ∙ added_row id (more_values CommandLine (v ∷ [])) (row_for id v ∷ []) rows e

has_row_more : (id : Text) (rows : List Row) (r : Row) → has_row id (rows ++ r ∷ []) ≡ (has_row id rows || (bytes_eq r.id id || false))
has_row_more id [] r = refl
has_row_more id (x ∷ xs) r = go (bytes_eq x.id id) (has_row_more id xs r)
  where
    go : (b : Bool) → has_row id (xs ++ r ∷ []) ≡ (has_row id xs || (bytes_eq r.id id || false))
        → (b || has_row id (xs ++ r ∷ [])) ≡ ((b || has_row id xs) || (bytes_eq r.id id || false))
    go true e = refl
    go false e = e

abbrev found : Text → List Row → Option Row
found id rows = find (λ r. bytes_eq r.id id) rows

found_more : (id : Text) (rows : List Row) (r : Row) → bytes_eq r.id id ≡ false → found id (rows ++ r ∷ []) ≡ found id rows
found_more id [] r e = rw e refl
found_more id (x ∷ xs) r e = go (bytes_eq x.id id) (found_more id xs r e)
  where
    go : (b : Bool) → found id (xs ++ r ∷ []) ≡ found id xs → cond b (Some x) (found id (xs ++ r ∷ [])) ≡ cond b (Some x) (found id xs)
    go true more = refl
    go false more = more

found_new : (id : Text) (rows : List Row) (r : Row) → has_row id rows ≡ false → bytes_eq r.id id ≡ true → found id (rows ++ r ∷ []) ≡ Some r
found_new id [] r e t = rw t refl
found_new id (x ∷ xs) r e t = go (bytes_eq x.id id) e (λ f. found_new id xs r f t)
  where
    go : (b : Bool) → (b || has_row id xs) ≡ false → (has_row id xs ≡ false → found id (xs ++ r ∷ []) ≡ Some r) → cond b (Some x) (found id (xs ++ r ∷ [])) ≡ Some r
    go true f more = absurd (true≢false f)
    go false f more = more f

or_false : (b : Bool) → (b || false) ≡ b
or_false true = refl
or_false false = refl

-- one more option is shown
pub shows_more : (which : Bool) (v : Text) (rows : List Row) (o : Options) → Shows rows o → get which o ≡ None
    → Shows (used (built_option (id_of which)) (v ∷ []) rows) (set which o v)
shows_more which v rows o s none = subst (λ xs. Shows xs (set which o v)) (sym (used_once (id_of which) v rows gone)) (at which none gone)
  where
    gone : has_row (id_of which) rows ≡ false
    gone = s.has which ∙ ap is_some none

    at : (w : Bool) → get w o ≡ None → has_row (id_of w) rows ≡ false → Shows (rows ++ row_for (id_of w) v ∷ []) (set w o v)
    at true n g = record {
      has = λ w. elim w as (λ w. has_row (id_of w) (rows ++ row_for (codes "workers") v ∷ []) ≡ is_some (get w (set true o v))) [
        | true ↦ has_row_more (codes "workers") rows (row_for (codes "workers") v) ∙ rw g refl
        | false ↦ has_row_more (codes "number") rows (row_for (codes "workers") v) ∙ or_false (has_row (codes "number") rows) ∙ s.has false
      ];
      first = λ w. elim w as (λ w. first_of (id_of w) (rows ++ row_for (codes "workers") v ∷ []) ≡ get w (set true o v)) [
        | true ↦ ap (option_and_then (λ (r : Row). slice_get r.values 0)) (found_new (codes "workers") rows (row_for (codes "workers") v) g refl)
        | false ↦ ap (option_and_then (λ (r : Row). slice_get r.values 0)) (found_more (codes "number") rows (row_for (codes "workers") v) refl) ∙ s.first false
      ];
    }
    at false n g = record {
      has = λ w. elim w as (λ w. has_row (id_of w) (rows ++ row_for (codes "number") v ∷ []) ≡ is_some (get w (set false o v))) [
        | false ↦ has_row_more (codes "number") rows (row_for (codes "number") v) ∙ rw g refl
        | true ↦ has_row_more (codes "workers") rows (row_for (codes "number") v) ∙ or_false (has_row (codes "workers") rows) ∙ s.has true
      ];
      first = λ w. elim w as (λ w. first_of (id_of w) (rows ++ row_for (codes "number") v ∷ []) ≡ get w (set false o v)) [
        | false ↦ ap (option_and_then (λ (r : Row). slice_get r.values 0)) (found_new (codes "number") rows (row_for (codes "number") v) g refl)
        | true ↦ ap (option_and_then (λ (r : Row). slice_get r.values 0)) (found_more (codes "workers") rows (row_for (codes "number") v) refl) ∙ s.first true
      ];
    }

-- ---- a use

pub use_first : (id v : Text) (rows : List Row) → has_row id rows ≡ false → use_fault false (built_option id) (v ∷ []) rows ≡ []
use_first id v rows e = rw e refl

pub use_again : (id v : Text) (rows : List Row) → has_row id rows ≡ true → IsFault (use_fault false (built_option id) (v ∷ []) rows)
use_again id v rows e = (kind.ArgumentConflict, [], rw e refl)

-- ---- numbers

-- no number begins with a hyphen
begins_with_hyphen : (least most : ℕ) (t : Text) → number_within least most (45 ∷ t) ≡ None
begins_with_hyphen least most t = go (nat_le 1 (length (45 ∷ t)))
  where
    go : (b : Bool) → cond (b && false && nat_le (length (45 ∷ t)) MOST_DIGITS && nat_le least (digits_value 10 (45 ∷ t)) && nat_le (digits_value 10 (45 ∷ t)) most) (Some (digits_value 10 (45 ∷ t))) None ≡ None
    go true = refl
    go false = refl

pub no_number : (which : Bool) (t : Text) → number_for which (45 ∷ t) ≡ None
no_number true t = begins_with_hyphen LEAST_WORKERS MOST_WORKERS t
no_number false t = begins_with_hyphen 0 GREATEST_NUMBER t

-- Consecutive indices.
use Rattle.std.proofs.Common.{◌≡◌, ℕ, zero, suc, ◌+◌, ◌-◌, ◌<◌, ◌≤◌, true, false, nat_eq, length, refl, sym, ap, ◌∙◌, inl, inr, arith}
use Rattle.std.specs.Prelude.{Some, None, nat_le, nat_lt, ◌==◌, ◌&&◌, if◌then◌else◌, slice_get}
use Rattle.std.specs.List.{list_all, list_any, range_with_len, position, position_or_len}
use Rattle.std.proofs.lemmas.Bool.Decides.{nat_tests}
use Rattle.std.proofs.lemmas.Bool.{cases_lt, cases_eq, lt-ltb, le-ltb, eq-eqb, ne_eqb}
use Rattle.std.proofs.lemmas.List.FromFn.{length-range_with_len, get_or-range_with_len}
use Rattle.std.proofs.lemmas.Option.{slice_get-get_or, slice_get_past}
use Rattle.music_base.specs.Numbers.{all_differ}
use Rattle.index_maps.specs.Indices.{are_indices}
use Rattle.index_maps.specs.declared.span.TheConstants.{INDEX_LIMIT}
use Rattle.music_base.proofs.Lists.{list_any-range_with_len}

-- ---- which they are

pub list_any_range : (g a n : ℕ) → list_any (λ i. i == g) (range_with_len a n) ≡ (nat_le a g && nat_lt g (a + n))
list_any_range g a n = list_any-range_with_len g a n

-- ---- by their places

pub slice_get_range : (a n i : ℕ) → slice_get (range_with_len a n) i ≡ (if nat_lt i n then Some (a + i) else None)
slice_get_range a n i = elim (cases_lt i n) [
  | inl lt ↦ rw (lt-ltb i n lt) (slice_get-get_or (range_with_len a n) i 0 (omega (arith, length-range_with_len a n, lt)) ∙ ap (λ (x : ℕ). Some x) (get_or-range_with_len a n i 0 lt))
  | inr ge ↦ rw (le-ltb i n ge) (slice_get_past (range_with_len a n) i (omega (arith, length-range_with_len a n, ge)))
]

-- the first place of an index, or the size
place_in : (n a g : ℕ) → position_or_len (λ i. i == g) (range_with_len a n) ≡ (if (nat_le a g && nat_lt (g - a) n) then g - a else n)
place_in zero a g = grind (arith, nat_tests)
place_in (suc n) a g = elim (cases_eq a g) [
  | inl same ↦ rw (eq-eqb a g same) (grind (arith, nat_tests))
  | inr other ↦ rw (ne_eqb a g other, place_in n (a + 1) g) (grind (arith, nat_tests))
]

pub base_below : (a n g : ℕ) → list_any (λ i. i == g) (range_with_len a n) ≡ true → a ≤ g
base_below a n g is =
    let e : (nat_le a g && nat_lt g (a + n)) ≡ true = sym (list_any_range g a n) ∙ is in
    grind (arith, nat_tests)

-- an index is found exactly where it is one of them
pub position_within : (a n g : ℕ) → list_any (λ i. i == g) (range_with_len a n) ≡ true → Some (g - a) ≡ position (λ i. i == g) (range_with_len a n)
position_within a n g is =
    let e : (nat_le a g && nat_lt g (a + n)) ≡ true = sym (list_any_range g a n) ∙ is in
    rw (place_in n a g, length-range_with_len a n) (grind (arith, nat_tests))

pub position_outside : (a n g : ℕ) → list_any (λ i. i == g) (range_with_len a n) ≡ false → None ≡ position (λ i. i == g) (range_with_len a n)
position_outside a n g is =
    let e : (nat_le a g && nat_lt g (a + n)) ≡ false = sym (list_any_range g a n) ∙ is in
    rw (place_in n a g, length-range_with_len a n) (grind (arith, nat_tests))

-- each is a global index, and none comes twice

all_below : (a n : ℕ) → a + n ≤ INDEX_LIMIT → list_all (λ i. nat_lt i INDEX_LIMIT) (range_with_len a n) ≡ true
all_below a zero le = refl
all_below a (suc n) le = rw (lt-ltb a INDEX_LIMIT (omega arith)) (all_below (a + 1) n (omega arith))

none_before : (g a n : ℕ) → g < a → list_any (λ i. nat_eq g i) (range_with_len a n) ≡ false
none_before g a zero lt = refl
none_before g a (suc n) lt = rw (ne_eqb g a (λ same. omega arith)) (none_before g (a + 1) n (omega arith))

all_apart : (a n : ℕ) → all_differ ◌==◌ (range_with_len a n) ≡ true
all_apart a zero = refl
all_apart a (suc n) = rw (none_before a (a + 1) n (omega arith)) (all_apart (a + 1) n)

pub are_indices-range : (a n : ℕ) → a + n ≤ INDEX_LIMIT → are_indices (range_with_len a n) ≡ true
are_indices-range a n le = rw (all_below a n le) (all_apart a n)

pub length_range : (a n : ℕ) → length (range_with_len a n) ≡ n
length_range a n = length-range_with_len a n

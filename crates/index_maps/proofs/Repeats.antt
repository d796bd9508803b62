-- Looking for the first repeat, entry by entry.
use Rattle.std.proofs.Common.{◌≡◌, ℕ, ◌+◌, ◌<◌, ◌≤◌, Bool, true, false, nat_eq, List, [], ◌∷◌, ◌++◌, length, take, drop, get_or, refl, sym, ◌∙◌, inl, inr, arith, append_assoc, append-nil}
use Rattle.std.specs.Prelude.{Some, None, slice_set, nat_lt, ◌==◌, ◌||◌, not}
use Rattle.std.specs.List.{list_any, list_all}
use Rattle.std.proofs.lemmas.Bool.{cases_eq, cases_Bool, eq-eqb, ne_eqb, ltb-true}
use Rattle.std.proofs.lemmas.List.{take_more, drop_more, drop_all, get_or-set_other, length-set, get_or_default}
use Rattle.std.proofs.lemmas.List.Folds.{list_any-append}
use Rattle.std.proofs.lemmas.List.Sums.{AllPass-from_list_all}
use Rattle.std.proofs.lemmas.Grind.{get_or-set_at}
use Rattle.music_base.specs.Numbers.{all_differ}
use Rattle.music_base.proofs.Lists.{all_differ-push}
use Rattle.index_maps.specs.Indices.{are_indices}
use Rattle.index_maps.specs.Repeats.{first_repeat, repeat_behind}
use Rattle.index_maps.specs.declared.span.TheConstants.{INDEX_LIMIT}

abbrev pub has : List ℕ → ℕ → Bool
has xs g = list_any (λ i. i == g) xs

abbrev pub AreSmall : List ℕ → Type 0
AreSmall xs = list_all (λ i. nat_lt i INDEX_LIMIT) xs ≡ true

pub small_at : (xs : List ℕ) (i : ℕ) → AreSmall xs → i < length xs → get_or xs i 0 < INDEX_LIMIT
small_at xs i small lt = ltb-true (get_or xs i 0) INDEX_LIMIT (AllPass-from_list_all (λ i. nat_lt i INDEX_LIMIT) xs small i 0 lt)

-- ---- in steps

-- no entry before place i repeats
abbrev pub IsRestAt : List ℕ → ℕ → Type 0
IsRestAt list i = repeat_behind (take i list) (drop i list) ≡ first_repeat list

pub rest_at_start : (list : List ℕ) → IsRestAt list 0
unfolding first_repeat
rest_at_start list = refl

rest_with_entry : (list : List ℕ) (i : ℕ) → i < length list → IsRestAt list i → repeat_behind (take i list) (get_or list i 0 ∷ drop (i + 1) list) ≡ first_repeat list
rest_with_entry list i lt rest = rw (drop_more list i 0 lt) at rest

-- the entry at i was seen before
pub repeat_found : (list : List ℕ) (i : ℕ) → i < length list → IsRestAt list i → has (take i list) (get_or list i 0) ≡ true → Some (get_or list i 0) ≡ first_repeat list
repeat_found list i lt rest seen = rw seen at (rest_with_entry list i lt rest)

-- or it was not
pub rest_goes_on : (list : List ℕ) (i : ℕ) → i < length list → IsRestAt list i → has (take i list) (get_or list i 0) ≡ false → IsRestAt list (i + 1)
rest_goes_on list i lt rest new = rw (take_more list i 0 lt) (rw new at (rest_with_entry list i lt rest))

pub rest_at_end : (list : List ℕ) (i : ℕ) → length list ≤ i → IsRestAt list i → None ≡ first_repeat list
rest_at_end list i ge rest = rw (drop_all i list ge) at rest

-- ---- by marks

-- the marks say which indices stand before place i, and none of these repeats
pub record IsSeenTo (list : List ℕ) (i : ℕ) (seen : List Bool) : Type 0 where
  pub size : length seen ≡ INDEX_LIMIT
  pub marks : (g : ℕ) → g < INDEX_LIMIT → get_or seen g false ≡ has (take i list) g
  pub rest : IsRestAt list i

pub none_seen : (list : List ℕ) (seen : List Bool) → length seen ≡ INDEX_LIMIT → ((k : ℕ) → get_or seen k false ≡ false) → IsSeenTo list 0 seen
none_seen list seen size none = record { size = size; marks = λ g lt. none g; rest = rest_at_start list }

-- what was read at another default
mark_is : (seen : List Bool) (x : ℕ) (b m : Bool) → x < length seen → b ≡ get_or seen x b → b ≡ m → get_or seen x false ≡ m
mark_is seen x b m lt read is = get_or_default seen x false b lt ∙ sym read ∙ is

-- the mark of the entry at place i
pub entry_mark : (list : List ℕ) (i : ℕ) (seen : List Bool) (b m : Bool) → AreSmall list → i < length list → IsSeenTo list i seen → b ≡ get_or seen (get_or list i 0) b → b ≡ m → has (take i list) (get_or list i 0) ≡ m
entry_mark list i seen b m small lt on read is =
    let below = small_at list i small lt in
    sym (on.marks (get_or list i 0) below) ∙ mark_is seen (get_or list i 0) b m (omega (arith, below, on.size)) read is

same_or : (b : Bool) (x g : ℕ) → nat_eq x g ≡ false → (b || (nat_eq x g || false)) ≡ b
same_or true x g e = refl
same_or false x g e = rw e refl

or_true : (b : Bool) → (b || true) ≡ true
or_true true = refl
or_true false = refl

-- one more is marked
pub one_more_seen : (list : List ℕ) (i : ℕ) (seen : List Bool) → AreSmall list → i < length list → IsSeenTo list i seen → has (take i list) (get_or list i 0) ≡ false → IsSeenTo list (i + 1) (slice_set seen (get_or list i 0) true)
one_more_seen list i seen small lt on new =
    let x : ℕ = get_or list i 0 in
    let below : x < INDEX_LIMIT = small_at list i small lt in
    record {
      size = length-set seen x true ∙ on.size;
      marks = λ g within. rw (take_more list i 0 lt, list_any-append (λ y. y == g) (take i list) (x ∷ [])) (elim (cases_eq x g) [
        | inl same ↦ rw (get_or-set_at seen x g true false (sym same) (omega (arith, on.size, below)), eq-eqb x g same) (sym (or_true (has (take i list) g)))
        | inr other ↦ rw (get_or-set_other seen x g true false (λ e. other (sym e)), on.marks g within) (sym (same_or (has (take i list) g) x g (ne_eqb x g other)))
      ]);
      rest = rest_goes_on list i lt on.rest new;
    }

-- ---- where none repeats, all differ

not_false : (b : Bool) → b ≡ false → not b ≡ true
not_false true e = sym e
not_false false e = refl

differ_behind : (seen xs : List ℕ) → repeat_behind seen xs ≡ None → all_differ ◌==◌ seen ≡ true → all_differ ◌==◌ (seen ++ xs) ≡ true
differ_behind seen [] none differ = rw (append-nil seen) differ
differ_behind seen (x ∷ xs) none differ = elim (cases_Bool (has seen x)) [
  | inl repeats ↦ let other : Some x ≡ None = rw repeats at none in absurd cc
  | inr new ↦
      let on = differ_behind (seen ++ x ∷ []) xs (rw new at none) (all_differ-push ◌==◌ seen x differ new) in
      rw (append_assoc seen (x ∷ []) xs) at on
]

pub indices_differ : (list : List ℕ) → AreSmall list → first_repeat list ≡ None → are_indices list ≡ true
unfolding first_repeat
indices_differ list small none = rw (small) (differ_behind [] list none refl)

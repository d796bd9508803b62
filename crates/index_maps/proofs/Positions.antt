-- Where an index stands in a list in which none comes twice.
use Rattle.std.proofs.Common.{◌≡◌, inl, inr, ℕ, ◌<◌, true, false, nat_eq, nat_lt, List, length, get_or, sym, subst, ◌∙◌, refl, arith}
use Rattle.std.specs.Prelude.{◌==◌, is_some, slice_index}
use Rattle.std.specs.List.{filter, list_any, position, position_or_len, range_with_len}
use Rattle.std.specs.Option.{option_to_list}
use Rattle.std.proofs.lemmas.Bool.{cases_Bool, cases_eq, cases_lt, eq-eqb, eqb-true, lt-ltb, le-ltb, ne_eqb}
use Rattle.std.proofs.lemmas.List.Folds.{list_any_at}
use Rattle.std.proofs.lemmas.List.Sums.{passes_at_first}
use Rattle.music_base.specs.Numbers.{all_differ, below}
use Rattle.music_base.proofs.FirstPlaces.{is_found}
use Rattle.music_base.proofs.Lists.{all_differ-at, filter-agree_within, filter-none, filter-range_with_len_one, All-of}

-- its first place, or the length where there is none
abbrev place : List ℕ → ℕ → ℕ
place globals g = position_or_len (λ i. i == g) globals

-- it has a place where it stands in the list
pub place_some : (g : ℕ) (globals : List ℕ) → is_some (position (λ i. i == g) globals) ≡ list_any (λ i. i == g) globals
place_some g globals = elim (cases_Bool (list_any (λ i. i == g) globals)) [
  | inl found ↦ let at : nat_lt (place globals g) (length globals) ≡ true = is_found (λ i. i == g) globals ∙ found in rw (at, found) refl
  | inr none ↦ let past : nat_lt (place globals g) (length globals) ≡ false = is_found (λ i. i == g) globals ∙ none in rw (past, none) refl
]

-- it stands at its first place alone
stands_once : (globals : List ℕ) (g : ℕ) → all_differ ◌==◌ globals ≡ true → place globals g < length globals → (local : ℕ) → local < length globals
    → nat_eq (get_or globals local 0) g ≡ nat_eq local (place globals g)
stands_once globals g differ lt local high =
    let k : ℕ = place globals g in
    let at : nat_eq (get_or globals k 0) g ≡ true = passes_at_first (λ i. i == g) globals 0 lt in
    let is : get_or globals k 0 ≡ g = eqb-true (get_or globals k 0) g at in
    elim (cases_eq local k) [
      | inl e ↦ subst (λ n. nat_eq (get_or globals n 0) g ≡ nat_eq n k) (sym e) (at ∙ sym (eq-eqb k k refl))
      | inr ne ↦
          let other : nat_eq local k ≡ false = ne_eqb local k ne in
          let apart : nat_eq (get_or globals local 0) g ≡ false = ne_eqb (get_or globals local 0) g (λ e. elim (cases_lt local k) [
            | inl before ↦
                let differs : nat_eq (get_or globals local 0) (get_or globals k 0) ≡ false = all_differ-at ◌==◌ globals local k 0 differ before lt in
                let same : nat_eq (get_or globals local 0) (get_or globals k 0) ≡ true = eq-eqb _ _ (e ∙ sym is) in
                let bad : true ≡ false = sym same ∙ differs in cc
            | inr behind ↦
                let differs : nat_eq (get_or globals k 0) (get_or globals local 0) ≡ false = all_differ-at ◌==◌ globals k local 0 differ (omega (arith, ne)) high in
                let same : nat_eq (get_or globals k 0) (get_or globals local 0) ≡ true = eq-eqb _ _ (is ∙ sym e) in
                let bad : true ≡ false = sym same ∙ differs in cc
          ]) in
          apart ∙ sym other
    ]

-- the places at which an index stands are its first place, or none
pub place_or_none : (globals : List ℕ) (g : ℕ) → all_differ ◌==◌ globals ≡ true → filter (λ local. slice_index globals local == g) (below (length globals)) ≡ option_to_list (position (λ i. i == g) globals)
place_or_none globals g differ = elim (cases_lt (place globals g) (length globals)) [
  | inl lt ↦
      let t : nat_lt (place globals g) (length globals) ≡ true = lt-ltb _ _ lt in
      rw t (filter-agree_within (λ local. get_or globals local 0 == g) (λ local. local == place globals g) 0 (length globals) (λ local low high. stands_once globals g differ lt local (omega arith))
      ∙ filter-range_with_len_one (place globals g) 0 (length globals) (omega arith) (omega arith))
  | inr ge ↦
      let t : nat_lt (place globals g) (length globals) ≡ false = le-ltb _ _ ge in
      let none : list_any (λ i. i == g) globals ≡ false = sym (is_found (λ i. i == g) globals) ∙ t in
      rw t (filter-agree_within (λ local. get_or globals local 0 == g) (λ local. false) 0 (length globals) (λ local low high. ne_eqb (get_or globals local 0) g (λ e.
      let here : list_any (λ i. i == g) globals ≡ true = list_any_at (λ i. i == g) globals local 0 (omega arith) (eq-eqb _ _ e) in
      let bad : true ≡ false = sym here ∙ none in cc))
      ∙ filter-none (λ local. false) (range_with_len 0 (length globals)) (All-of (λ local. false ≡ false) (λ local. refl) (range_with_len 0 (length globals))))
]

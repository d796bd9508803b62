-- The last of a list of pairs.
use Rattle.std.proofs.Common.{◌≡◌, ℕ, suc, ◌-◌, List, [], ◌∷◌, ◌++◌, length, Some, refl, sym, ap, ◌∙◌, arith}
use Rattle.std.specs.Prelude.{slice_get, Result, Ok, Err, OnOk, OnErr}
use Rattle.std.specs.Map.{values_of}
use Rattle.indexmap.specs.IndexMap.{set_value_at}
use Rattle.config_text.specs.Pairs.{last_value, onto_last}

pub last_of_values : {X : Type 0} (es : List (List ℕ × X)) → slice_get (values_of es) (length es - 1) ≡ last_value es
last_of_values [] = refl
last_of_values (e ∷ []) = refl
last_of_values (e ∷ f ∷ es) = let i : suc (suc (length es)) - 1 ≡ suc (suc (length es) - 1) = omega arith in rw i (last_of_values (f ∷ es))

pub set_last : (es : List (List ℕ × List (List ℕ × List ℕ))) (old new : List (List ℕ × List ℕ)) (setting : List ℕ × List ℕ) → last_value es ≡ Some old → new ≡ old ++ setting ∷ []
    → set_value_at es (length es - 1) new ≡ onto_last setting es
set_last [] old new setting is e = absurd cc
set_last (s ∷ []) old new setting is e = let same : s.1 ≡ old = cc in rw (e, ← same) refl
set_last (s ∷ t ∷ es) old new setting is e =
    let i : suc (suc (length es)) - 1 ≡ suc (suc (length es) - 1) = omega arith in
    rw i (ap (λ (l : List (List ℕ × List (List ℕ × List ℕ))). s ∷ l) (set_last (t ∷ es) old new setting is e))

pub found_last : {X : Type 0} (es : List (List ℕ × X)) (x : X) → Some x ≡ slice_get (values_of es) (length es - 1) → last_value es ≡ Some x
found_last es x is = sym (is ∙ last_of_values es)

pub on_ok : {T E : Type 0} (r : Result T E) (P Q : Type 0) → (P → Q) → OnOk r P → OnOk r Q
on_ok (Ok x) P Q f h = f h
on_ok (Err e) P Q f h = h

pub on_err : {T E : Type 0} (r : Result T E) (P Q : Type 0) → (P → Q) → OnErr r P → OnErr r Q
on_err (Ok x) P Q f h = h
on_err (Err e) P Q f h = f h

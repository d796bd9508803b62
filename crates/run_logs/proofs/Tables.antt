-- Tables of fields, place by place.
use Rattle.std.proofs.Common.{◌≡◌, ◌⊎◌, ℕ, zero, suc, ◌+◌, ◌<◌, List, [], ◌∷◌, ◌++◌, length, get_or, refl, sym, subst, inl, inr, arith}
use Rattle.std.proofs.lemmas.Bool.{cases_order}
use Rattle.std.proofs.lemmas.List.{length_push}
use Rattle.run_logs.specs.QuickLines.{EachAt}

get_or-front : {X : Type 0} (xs : List X) (x past : X) (i : ℕ) → i < length xs → get_or (xs ++ x ∷ []) i past ≡ get_or xs i past
get_or-front [] x past i lt = absurd (omega arith)
get_or-front (y ∷ xs) x past zero lt = refl
get_or-front (y ∷ xs) x past (suc i) lt = get_or-front xs x past i (omega arith)

get_or-last : {X : Type 0} (xs : List X) (x past : X) → get_or (xs ++ x ∷ []) (length xs) past ≡ x
get_or-last [] x past = refl
get_or-last (y ∷ xs) x past = get_or-last xs x past

-- a table of the first places
pub record IsTable {X : Type 0} (P : ℕ → X → Type 0) (count : ℕ) (xs : List X) : Type 0 where
  pub counted : length xs ≡ count
  pub each : EachAt P xs

pub no_table : {X : Type 0} (P : ℕ → X → Type 0) → IsTable P 0 []
no_table P = record { counted = refl; each = λ i past lt. absurd (omega arith) }

pub table_more : {X : Type 0} (P : ℕ → X → Type 0) (count : ℕ) (xs ys : List X) (x : X) → P count x → ys ≡ xs ++ x ∷ [] → IsTable P count xs → IsTable P (count + 1) ys
table_more {X} P count xs ys x at is table = rw is (record {
  counted = rw (length_push xs x, table.counted) refl;
  each = λ i past lt. by_place i past (omega (arith, lt, length_push xs x)) (cases_order i (length xs));
})
  where
    by_place : (i : ℕ) (past : X) → i < length xs + 1 → ((i ≡ length xs) ⊎ ((i < length xs) ⊎ (length xs < i))) → P i (get_or (xs ++ x ∷ []) i past)
    by_place i past lt (inl e) = subst (λ n. P n (get_or (xs ++ x ∷ []) n past)) (sym e) (subst (P (length xs)) (sym (get_or-last xs x past)) (subst (λ n. P n x) (sym table.counted) at))
    by_place i past lt (inr (inl below)) = subst (P i) (sym (get_or-front xs x past i below)) (table.each i past below)
    by_place i past lt (inr (inr above)) = absurd (omega arith)

-- Looking through numbers, where each has one of two properties.
use Rattle.std.proofs.Common.{◌≡◌, ℕ, zero, suc, ◌+◌, ◌<◌, ◌≤◌, sym, subst, ◌⊎◌, inl, inr, arith}
use Rattle.std.proofs.lemmas.Bool.{cases_eq}

-- a number below n with P, or Q of each
pub search_below : (n : ℕ) (P Q : ℕ → Type 0) → ((k : ℕ) → k < n → P k ⊎ Q k) → ((k : ℕ) × (k < n) × P k) ⊎ ((k : ℕ) → k < n → Q k)
search_below zero P Q each = inr (λ k lt. absurd (omega arith))
search_below (suc n) P Q each = go (each n (omega arith)) (search_below n P Q (λ k lt. each k (omega arith)))
  where
    last : Q n → ((k : ℕ) → k < n → Q k) → (k : ℕ) → k < suc n → (k ≡ n) ⊎ (k ≡ n → ⊥) → Q k
    last q all k lt (inl e) = subst Q (sym e) q
    last q all k lt (inr ne) = all k (omega arith)

    go : P n ⊎ Q n → ((k : ℕ) × (k < n) × P k) ⊎ ((k : ℕ) → k < n → Q k) → ((k : ℕ) × (k < suc n) × P k) ⊎ ((k : ℕ) → k < suc n → Q k)
    go (inl p) rest = inl (n, omega arith, p)
    go (inr q) (inl found) = let lt : found.0 < suc n = omega (arith, found.1) in inl (found.0, lt, found.2)
    go (inr q) (inr all) = inr (λ k lt. last q all k lt (cases_eq k n))

-- the least number from 1 on with P, where each less has Q
pub record IsFirst (P Q : ℕ → Type 0) (m : ℕ) : Type 0 where
  pub some : 1 ≤ m
  pub here : P m
  pub before : (k : ℕ) → 1 ≤ k → k < m → Q k

-- looked for from m on, where it is found within n numbers
first_from : (P Q : ℕ → Type 0) → ((k : ℕ) → P k ⊎ Q k) → (n m : ℕ) → 1 ≤ m → ((k : ℕ) → 1 ≤ k → k < m → Q k) → P (m + n) → (r : ℕ) × IsFirst P Q r
first_from P Q decide zero m some before p = let e : m + 0 ≡ m = omega arith in (m, record { some = some; here = subst P e p; before = before })
first_from P Q decide (suc n) m some before p = go (decide m)
    (λ q. first_from P Q decide n (m + 1) (omega arith) (λ k low high. next q k low (cases_eq k m) high) (let e : m + suc n ≡ m + 1 + n = omega arith in subst P e p))
  where
    next : Q m → (k : ℕ) → 1 ≤ k → (k ≡ m) ⊎ (k ≡ m → ⊥) → k < m + 1 → Q k
    next q k low (inl e) high = subst Q (sym e) q
    next q k low (inr ne) high = before k low (omega arith)

    go : P m ⊎ Q m → (Q m → (r : ℕ) × IsFirst P Q r) → (r : ℕ) × IsFirst P Q r
    go (inl here) rest = (m, record { some = some; here = here; before = before })
    go (inr q) rest = rest q

pub first : (P Q : ℕ → Type 0) → ((k : ℕ) → P k ⊎ Q k) → (n : ℕ) → P (1 + n) → (r : ℕ) × IsFirst P Q r
first P Q decide n p = first_from P Q decide n 1 (omega arith) (λ k low high. absurd (omega arith)) p

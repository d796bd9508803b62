-- How many numbers below n pass a test.
use Rattle.std.proofs.Common.{◌≡◌, ℕ, zero, suc, ◌+◌, ◌<◌, ◌≤◌, Bool, true, false, cond, refl, ◌⊎◌, inl, inr, arith}
use Rattle.std.proofs.lemmas.Bool.{cases_lt}
use Rattle.music_base.specs.Numbers.{count_below}

-- a test that passes more often counts more
pub count_below-le : (n : ℕ) (p q : ℕ → Bool) → ((k : ℕ) → p k ≡ true → q k ≡ true) → count_below n p ≤ count_below n q
count_below-le zero p q more = omega arith
count_below-le (suc n) p q more = go (p n) (q n) (more n) (count_below-le n p q more)
  where
    go : (a b : Bool) → (a ≡ true → b ≡ true) → count_below n p ≤ count_below n q → cond a 1 0 + count_below n p ≤ cond b 1 0 + count_below n q
    go true true then rest = omega arith
    go true false then rest = absurd (cc (then refl))
    go false true then rest = omega arith
    go false false then rest = omega arith

pub count_below-at_most : (n : ℕ) (p : ℕ → Bool) → count_below n p ≤ n
count_below-at_most zero p = omega arith
count_below-at_most (suc n) p = go (p n) (count_below-at_most n p)
  where
    go : (a : Bool) → count_below n p ≤ n → cond a 1 0 + count_below n p ≤ suc n
    go true rest = omega arith
    go false rest = omega arith

pub count_below-all : (n : ℕ) (p : ℕ → Bool) → ((k : ℕ) → k < n → p k ≡ true) → count_below n p ≡ n
count_below-all zero p each = refl
count_below-all (suc n) p each = go (p n) (each n (omega arith)) (count_below-all n p (λ k lt. each k (omega arith)))
  where
    go : (b : Bool) → b ≡ true → count_below n p ≡ n → cond b 1 0 + count_below n p ≡ suc n
    go true pass rest = omega arith
    go false pass rest = cc

-- a test that passes below each number at which it passes
abbrev pub IsDownward : (ℕ → Bool) → Type 0
IsDownward p = (i k : ℕ) → i ≤ k → p k ≡ true → p i ≡ true

-- the numbers at which it passes are those below the count
pub below_count : (n : ℕ) (p : ℕ → Bool) → IsDownward p → (k : ℕ) → k < n → p k ≡ true → k < count_below n p
below_count zero p down k small pass = absurd (omega arith)
below_count (suc n) p down k small pass = go (p n) refl (λ e. count_below-all n p (λ i lt. down i n (omega arith) e)) (below_count n p down k) (cases_lt k n)
  where
    go : (b : Bool) → p n ≡ b → (p n ≡ true → count_below n p ≡ n) → (k < n → p k ≡ true → k < count_below n p) → (k < n) ⊎ (n ≤ k) → k < cond b 1 0 + count_below n p
    go true e all rest any = let a : count_below n p ≡ n = all e in omega arith
    go false e all rest (inl lt) = let r : k < count_below n p = rest lt pass in omega arith
    go false e all rest (inr ge) = let t : p n ≡ true = down n k ge pass in cc

pub passes_below : (n : ℕ) (p : ℕ → Bool) → IsDownward p → (k : ℕ) → k < count_below n p → p k ≡ true
passes_below zero p down k lt = absurd (omega arith)
passes_below (suc n) p down k lt = go (p n) refl (passes_below n p down k) (count_below-at_most n p) lt
  where
    go : (b : Bool) → p n ≡ b → (k < count_below n p → p k ≡ true) → count_below n p ≤ n → k < cond b 1 0 + count_below n p → p k ≡ true
    go true e rest most l = down k n (omega arith) e
    go false e rest most l = rest (omega arith)

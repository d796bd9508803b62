-- Counting, dividing and putting in order.
use Rattle.std.specs.Prelude.{ℕ, zero, suc, ◌+◌, ◌%◌, Bool, true, not, ◌&&◌, if◌then◌else◌, List, [], ◌∷◌, ℤ, pos, ◌*ℤ◌}
use Rattle.std.specs.Int.{int_div_euclid}
use Rattle.std.specs.List.{range_with_len, list_any}
use Rattle.std.specs.declared.cmp.Ordering.{Ordering}
use Rattle.std.specs.Ordering.{is_gt}

-- ---- counting

-- how many numbers below n pass the test
abbrev pub count_below : ℕ → (ℕ → Bool) → ℕ
count_below zero test = 0
count_below (suc n) test = (if test n then 1 else 0) + count_below n test

-- the sum of f over the numbers below n
abbrev pub total_below : (ℕ → ℕ) → ℕ → ℕ
total_below f zero = 0
total_below f (suc n) = f n + total_below f n

-- the numbers below n, ascending
abbrev pub below : ℕ → List ℕ
below n = range_with_len 0 n

-- no two elements are equal by the test
abbrev pub all_differ : {X : Type 0} → (X → X → Bool) → List X → Bool
all_differ eq [] = true
all_differ eq (x ∷ xs) = not (list_any (eq x) xs) && all_differ eq xs

-- ---- dividing

-- the greatest common divisor, in at most n steps of Euclid
abbrev pub gcd_within : ℕ → ℕ → ℕ → ℕ
gcd_within zero a b = a
gcd_within (suc n) a zero = a
gcd_within (suc n) a (suc b) = gcd_within n (suc b) (a % suc b)

unfoldable pub gcd : ℕ → ℕ → ℕ
gcd a b = gcd_within (suc b) a b

-- x / y, rounded down
abbrev pub floor_div : ℤ → ℕ → ℤ
floor_div x y = int_div_euclid x (pos y)

-- the greatest multiple of g that is at most x
unfoldable pub floor_to : ℕ → ℤ → ℤ
floor_to g x = floor_div x g *ℤ pos g

-- ---- putting in order

-- xs with x in front of the first that is not before it
abbrev pub put_in_order : {X : Type 0} → (X → X → Ordering) → X → List X → List X
put_in_order cmp x [] = x ∷ []
put_in_order cmp x (y ∷ ys) = if is_gt (cmp x y) then y ∷ put_in_order cmp x ys else (x ∷ y ∷ ys)

-- xs in the order cmp, where those that tie keep their places
abbrev pub in_order : {X : Type 0} → (X → X → Ordering) → List X → List X
in_order cmp [] = []
in_order cmp (x ∷ xs) = put_in_order cmp x (in_order cmp xs)

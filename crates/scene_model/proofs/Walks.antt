-- Lists of waits: sums over them, where they lead, and how often an application stands in them.
use Rattle.std.proofs.Common.{◌≡◌, ℕ, ◌+◌, ◌<◌, ◌≤◌, ℤ, pos, ◌+ℤ◌, ◌-ℤ◌, ◌*ℤ◌, ◌≤ℤ◌, List, [], ◌∷◌, ◌++◌, length, take, drop, get_or, suc, zero, refl, ap, sym, subst, arith, cond, eqb, ltb, Bool}
use Rattle.std.proofs.lemmas.Int.{ints}
use Rattle.std.proofs.Math.IntN.{suc_ℤ-*ℤ, zero-*ℤ}
use Rattle.std.proofs.lemmas.List.{take-append-drop, length-append, length-drop}
use Rattle.std.proofs.lemmas.List.Sums.{sum_by-cons}
use Rattle.std.proofs.lemmas.List.Elements.{All-tail}
use Rattle.std.proofs.lemmas.Bool.Decides.{nat_tests}
use Rattle.std.specs.List.{count_by, All}
use Rattle.scene_model.specs.declared.wait.Wait.{Wait}
use Rattle.scene_model.specs.Cover.{IsWalk, IsCycle, sum_of, waits_by}

-- ---- sums

pub sum_of-append : (f : Wait → ℤ) (xs ys : List Wait) → sum_of f (xs ++ ys) ≡ sum_of f xs +ℤ sum_of f ys
sum_of-append f [] ys = omega (arith, ints)
sum_of-append f (x ∷ xs) ys = omega (arith, ints, sum_of-append f xs ys)

-- a list from another of its places on has the same sum
pub sum_of-turned : (f : Wait → ℤ) (xs : List Wait) (k : ℕ) → sum_of f (drop k xs ++ take k xs) ≡ sum_of f xs
sum_of-turned f xs k =
    let whole : sum_of f (take k xs ++ drop k xs) ≡ sum_of f xs = ap (sum_of f) (take-append-drop k xs) in
    omega (arith, ints, whole, sum_of-append f (take k xs) (drop k xs), sum_of-append f (drop k xs) (take k xs))

-- ---- n times a signed number

pub scaled-suc : (n : ℕ) (a : ℤ) → pos (suc n) *ℤ a ≡ pos n *ℤ a +ℤ a
scaled-suc n a = suc_ℤ-*ℤ (pos n) a

pub scaled-add : (n : ℕ) (a b : ℤ) → pos n *ℤ (a +ℤ b) ≡ pos n *ℤ a +ℤ pos n *ℤ b
scaled-add zero a b = omega (arith, ints, zero-*ℤ (a +ℤ b), zero-*ℤ a, zero-*ℤ b)
scaled-add (suc n) a b = omega (arith, ints, scaled-suc n (a +ℤ b), scaled-suc n a, scaled-suc n b, scaled-add n a b)

pub scaled-sub : (n : ℕ) (a b : ℤ) → pos n *ℤ (a -ℤ b) ≡ pos n *ℤ a -ℤ pos n *ℤ b
scaled-sub zero a b = omega (arith, ints, zero-*ℤ (a -ℤ b), zero-*ℤ a, zero-*ℤ b)
scaled-sub (suc n) a b = omega (arith, ints, scaled-suc n (a -ℤ b), scaled-suc n a, scaled-suc n b, scaled-sub n a b)

pub scaled-ge : (n : ℕ) (a : ℤ) → pos 1 ≤ℤ a → pos n ≤ℤ (pos n *ℤ a)
scaled-ge zero a h = omega (arith, ints, zero-*ℤ a)
scaled-ge (suc n) a h = omega (arith, ints, scaled-suc n a, scaled-ge n a h)

pub scaled-le-zero : (n : ℕ) (a : ℤ) → a ≤ℤ pos 0 → (pos n *ℤ a) ≤ℤ pos 0
scaled-le-zero zero a h = omega (arith, ints, zero-*ℤ a)
scaled-le-zero (suc n) a h = omega (arith, ints, scaled-suc n a, scaled-le-zero n a h)

pub scaled-nonneg : (n : ℕ) (a : ℤ) → pos 0 ≤ℤ a → pos 0 ≤ℤ (pos n *ℤ a)
scaled-nonneg zero a h = omega (arith, ints, zero-*ℤ a)
scaled-nonneg (suc n) a h = omega (arith, ints, scaled-suc n a, scaled-nonneg n a h)

-- ---- where a walk leads

-- the end of the list that starts at application a
abbrev pub end_of : ℕ → List Wait → ℕ
end_of a [] = a
end_of a (w ∷ ws) = end_of w.awaited ws

pub end_of-walk : (a : ℕ) (ws : List Wait) (b : ℕ) → IsWalk a ws b → end_of a ws ≡ b
end_of-walk a [] b h = h
end_of-walk a (w ∷ ws) b h = end_of-walk w.awaited ws b h.1

pub end_of-take : (k : ℕ) (a : ℕ) (ws : List Wait) (d : Wait) → k < length ws → end_of a (take (suc k) ws) ≡ (get_or ws k d).awaited
end_of-take k a [] d h = absurd (omega arith)
end_of-take zero a (w ∷ ws) d h = refl
end_of-take (suc k) a (w ∷ ws) d h = end_of-take k w.awaited ws d (omega arith)

pub IsWalk-take : (k : ℕ) (a : ℕ) (ws : List Wait) (b : ℕ) → IsWalk a ws b → IsWalk a (take k ws) (end_of a (take k ws))
IsWalk-take zero a ws b h = refl
IsWalk-take (suc k) a [] b h = refl
IsWalk-take (suc k) a (w ∷ ws) b h = (h.0, IsWalk-take k w.awaited ws b h.1)

pub IsWalk-append : (a : ℕ) (xs : List Wait) (m : ℕ) (ys : List Wait) (b : ℕ) → IsWalk a xs m → IsWalk m ys b → IsWalk a (xs ++ ys) b
IsWalk-append a [] m ys b h k = let P : ℕ → Type 0 = λ z. IsWalk z ys b in subst P (sym h) k
IsWalk-append a (x ∷ xs) m ys b h k = (h.0, IsWalk-append x.awaited xs m ys b h.1 k)

pub IsWalk-front : (a : ℕ) (xs ys : List Wait) (b : ℕ) → IsWalk a (xs ++ ys) b → IsWalk a xs (end_of a xs)
IsWalk-front a [] ys b h = refl
IsWalk-front a (x ∷ xs) ys b h = (h.0, IsWalk-front x.awaited xs ys b h.1)

pub IsWalk-back : (a : ℕ) (xs ys : List Wait) (b : ℕ) → IsWalk a (xs ++ ys) b → IsWalk (end_of a xs) ys b
IsWalk-back a [] ys b h = h
IsWalk-back a (x ∷ xs) ys b h = IsWalk-back x.awaited xs ys b h.1

-- ---- cycles

pub cycle_from_walk : (a : ℕ) (ws : List Wait) → 0 < length ws → IsWalk a ws a → IsCycle ws
cycle_from_walk a [] some h = absurd (omega arith)
cycle_from_walk a (w ∷ ws) some h = let P : ℕ → Type 0 = λ z. IsWalk w.awaited ws z in subst P (sym h.0) h.1

pub walk_from_cycle : (ws : List Wait) → IsCycle ws → (a : ℕ) × IsWalk a ws a
walk_from_cycle [] h = absurd h
walk_from_cycle (w ∷ ws) h = (w.waiter, (refl, h))

-- a cycle from another of its waits on is a cycle
pub IsCycle-turned : (xs : List Wait) (k : ℕ) → k < length xs → IsCycle xs → IsCycle (drop k xs ++ take k xs)
IsCycle-turned xs k lt h =
    let round = walk_from_cycle xs h in
    let P : List Wait → Type 0 = λ ws. IsWalk round.0 ws round.0 in
    let parts : IsWalk round.0 (take k xs ++ drop k xs) round.0 = subst P (sym (take-append-drop k xs)) round.1 in
    let there = end_of round.0 (take k xs) in
    cycle_from_walk there (drop k xs ++ take k xs)
    (omega (arith, length-append (drop k xs) (take k xs), length-drop k xs))
    (IsWalk-append there (drop k xs) round.0 (take k xs) there (IsWalk-back round.0 (take k xs) (drop k xs) round.0 parts) (IsWalk-front round.0 (take k xs) (drop k xs) round.0 parts))

-- ---- how often an application stands in a list

-- 1 where a test is passed
abbrev pub one_if : Bool → ℕ
one_if b = cond b 1 0

-- how many waits have application a at their end that f takes
abbrev pub count_at : (Wait → ℕ) → ℕ → List Wait → ℕ
count_at f a ws = count_by (λ (w : Wait). eqb (f w) a) ws

pub count_at-cons : (f : Wait → ℕ) (a : ℕ) (w : Wait) (ws : List Wait) → count_at f a (w ∷ ws) ≡ one_if (eqb (f w) a) + count_at f a ws
count_at-cons f a w ws = sum_by-cons (λ (w : Wait). one_if (eqb (f w) a)) w ws

pub count_at-append : (f : Wait → ℕ) (a : ℕ) (xs ys : List Wait) → count_at f a (xs ++ ys) ≡ count_at f a xs + count_at f a ys
count_at-append f a [] ys = omega arith
count_at-append f a (x ∷ xs) ys = omega (arith, count_at-cons f a x (xs ++ ys), count_at-cons f a x xs, count_at-append f a xs ys)

pub count_at-turned : (f : Wait → ℕ) (a : ℕ) (xs : List Wait) (k : ℕ) → count_at f a (drop k xs ++ take k xs) ≡ count_at f a xs
count_at-turned f a xs k =
    let whole : count_at f a (take k xs ++ drop k xs) ≡ count_at f a xs = ap (count_at f a) (take-append-drop k xs) in
    omega (arith, whole, count_at-append f a (take k xs) (drop k xs), count_at-append f a (drop k xs) (take k xs))

-- a walk leaves each application as often as it comes to it, but for its two ends
pub left-come : (x a : ℕ) (ws : List Wait) (b : ℕ) → IsWalk a ws b →
    waits_by x ws + one_if (eqb b x) ≡ count_at (λ w. w.awaited) x ws + one_if (eqb a x)
left-come x a [] b h = ap (λ z. 0 + one_if (eqb z x)) (sym h)
left-come x a (w ∷ ws) b h =
    let e = ap (λ z. one_if (eqb z x)) h.0 in
    omega (arith, e, count_at-cons (λ w. w.awaited) x w ws, count_at-cons (λ w. w.waiter) x w ws, left-come x w.awaited ws b h.1)

-- ---- a list in which no application stands twice is no longer than there are applications

abbrev count_below : (Wait → ℕ) → ℕ → List Wait → ℕ
count_below f n ws = count_by (λ (w : Wait). ltb (f w) n) ws

count_below-cons : (f : Wait → ℕ) (n : ℕ) (w : Wait) (ws : List Wait) → count_below f n (w ∷ ws) ≡ one_if (ltb (f w) n) + count_below f n ws
count_below-cons f n w ws = sum_by-cons (λ (w : Wait). one_if (ltb (f w) n)) w ws

below_suc : (n x : ℕ) → one_if (ltb x (suc n)) ≡ one_if (ltb x n) + one_if (eqb x n)
below_suc n x = grind (arith, nat_tests)

below_zero : (x : ℕ) → one_if (ltb x zero) ≡ 0
below_zero x = grind (arith, nat_tests)

below_yes : (x n : ℕ) → x < n → one_if (ltb x n) ≡ 1
below_yes x n h = grind (arith, nat_tests)

count_below-zero : (f : Wait → ℕ) (ws : List Wait) → count_below f zero ws ≡ 0
count_below-zero f [] = refl
count_below-zero f (w ∷ ws) = omega (arith, count_below-cons f zero w ws, below_zero (f w), count_below-zero f ws)

count_below-suc : (f : Wait → ℕ) (n : ℕ) (ws : List Wait) → count_below f (suc n) ws ≡ count_below f n ws + count_at f n ws
count_below-suc f n [] = refl
count_below-suc f n (w ∷ ws) = omega (arith, count_below-cons f (suc n) w ws, count_below-cons f n w ws, count_at-cons f n w ws, count_below-suc f n ws, below_suc n (f w))

count_below-le : (f : Wait → ℕ) (n : ℕ) (ws : List Wait) → ((x : ℕ) → count_at f x ws ≤ 1) → count_below f n ws ≤ n
count_below-le f zero ws h = omega (arith, count_below-zero f ws)
count_below-le f (suc n) ws h = omega (arith, count_below-suc f n ws, h n, count_below-le f n ws h)

count_below-all : (f : Wait → ℕ) (n : ℕ) (ws : List Wait) → All (λ w. f w < n) ws → count_below f n ws ≡ length ws
count_below-all f n [] h = refl
count_below-all f n (w ∷ ws) h =
    omega (arith, count_below-cons f n w ws, below_yes (f w) n (h 0 w (omega arith)), count_below-all f n ws (All-tail (λ w. f w < n) w ws h))

pub length-le_from_once : (f : Wait → ℕ) (n : ℕ) (ws : List Wait) → All (λ w. f w < n) ws → ((x : ℕ) → count_at f x ws ≤ 1) → length ws ≤ n
length-le_from_once f n ws below once = omega (arith, count_below-all f n ws below, count_below-le f n ws once)

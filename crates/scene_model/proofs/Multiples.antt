-- Multiples of a common divisor, and clocks that are such multiples.
use Rattle.std.proofs.Common.{◌≡◌, ℕ, suc, ◌+◌, ◌*◌, ◌<◌, ◌≤◌, sym, ◌⊎◌, inl, inr, arith, ℤ, pos, negsuc, ◌+ℤ◌, ◌-ℤ◌, ◌*ℤ◌}
use Rattle.std.specs.Prelude.{◌<ℤ◌, ◌≤ℤ◌}
use Rattle.std.proofs.lemmas.Bool.{cases_lt}
use Rattle.std.proofs.lemmas.Int.{ints, by_lt_z}
use Rattle.std.proofs.Math.Nat.{mul-le-mul_left, mul-le-mul_right, mul_assoc}
use Rattle.music_base.specs.Numbers.{floor_div, floor_to}
use Rattle.music_base.proofs.Rounding.{floor_to-le, floor_to-near}

-- ---- multiples of g are g apart

multiples_apart : (g x y : ℕ) → x * g < y * g → x * g + g ≤ y * g
multiples_apart g x y lt = go (cases_lt x y)
  where
    go : (x < y) ⊎ (y ≤ x) → x * g + g ≤ y * g
    go (inl less) = let m : suc x * g ≤ y * g = mul-le-mul_right g less in omega arith
    go (inr le) = let m : y * g ≤ x * g = mul-le-mul_right g le in absurd (omega arith)

-- also where one of them is signed
signed_apart : (g x y : ℕ) (z : ℤ) → (pos (x * g) +ℤ (z *ℤ pos g)) <ℤ pos (y * g) → ((pos (x * g) +ℤ (z *ℤ pos g)) +ℤ pos g) ≤ℤ pos (y * g)
signed_apart g x y (pos m) lt = let n : (x + m) * g < y * g = omega (arith, ints) in let r : (x + m) * g + g ≤ y * g = multiples_apart g (x + m) y n in omega (arith, ints)
signed_apart g x y (negsuc m) lt = let n : x * g < (y + suc m) * g = omega (arith, ints) in let r : x * g + g ≤ (y + suc m) * g = multiples_apart g x (y + suc m) n in omega (arith, ints)

-- ---- rounding down

-- where one multiple and z lie below another, the other is g above the one and z rounded down
rounded_below : (g x y : ℕ) (z : ℤ) → 0 < g → (pos (x * g) +ℤ z) <ℤ pos (y * g) → ((pos (x * g) +ℤ floor_to g z) +ℤ pos g) ≤ℤ pos (y * g)
unfolding floor_to
rounded_below g x y z some lt = let f = floor_to-le g z some in signed_apart g x y (floor_div z g) (omega (arith, ints))

-- where they do not, neither do they with z rounded down
rounded_above : (g x y : ℕ) (z : ℤ) → 0 < g → pos (y * g) ≤ℤ (pos (x * g) +ℤ z) → pos (y * g) ≤ℤ (pos (x * g) +ℤ floor_to g z)
unfolding floor_to
rounded_above g x y z some le = by_lt_z (pos (x * g) +ℤ floor_to g z) (pos (y * g))
    (λ lt. let near = floor_to-near g z some in let m : ((pos (x * g) +ℤ floor_to g z) +ℤ pos g) ≤ℤ pos (y * g) = signed_apart g x y (floor_div z g) lt in absurd (omega (arith, ints)))
    (λ ge. ge)

-- ---- clocks

in_divisors : (g q tick k : ℕ) → q * g ≡ tick → k * tick ≡ (k * q) * g
in_divisors g q tick k e = rw (← e) (sym (mul_assoc k q g))

-- Where block k, which the sender has not made, is wanted by step j, the receiver's clock is ahead of the sender's by the
-- rounded allowance less the burden, or more.
pub block_apart : (g q r send receive k j : ℕ) (z : ℤ) → 0 < g → q * g ≡ send → r * g ≡ receive → (pos (k * send) +ℤ z) <ℤ pos (suc j * receive)
    → (pos (k * send) +ℤ (floor_to g z -ℤ (pos receive -ℤ pos g))) ≤ℤ pos (j * receive)
block_apart g q r send receive k j z some sends receives lt =
    let sent = in_divisors g q send k sends in
    let received = in_divisors g r receive (suc j) receives in
    let m : ((pos ((k * q) * g) +ℤ floor_to g z) +ℤ pos g) ≤ℤ pos ((suc j * r) * g) = rounded_below g (k * q) (suc j * r) z some (rw (← sent, ← received) lt) in
    let n : ((pos (k * send) +ℤ floor_to g z) +ℤ pos g) ≤ℤ pos (suc j * receive) = rw (sent, received) m in
    omega (arith, ints)

-- Where step j does not want block k yet, and m blocks from that one on are kept, the sender's clock is ahead of the
-- receiver's by the allowance of the wait for room, or more.
pub room_apart : (g q r send receive k m j : ℕ) (z : ℤ) → 0 < g → q * g ≡ send → r * g ≡ receive → pos (suc j * receive) ≤ℤ (pos (k * send) +ℤ z)
    → (pos (j * receive) +ℤ ((pos ((m + 1) * send + receive) -ℤ floor_to g z) -ℤ pos 0)) ≤ℤ pos ((k + m + 1) * send)
room_apart g q r send receive k m j z some sends receives le =
    let sent = in_divisors g q send k sends in
    let received = in_divisors g r receive (suc j) receives in
    let l : pos ((suc j * r) * g) ≤ℤ (pos ((k * q) * g) +ℤ floor_to g z) = rounded_above g (k * q) (suc j * r) z some (rw (← sent, ← received) le) in
    let n : pos (suc j * receive) ≤ℤ (pos (k * send) +ℤ floor_to g z) = rw (sent, received) l in
    omega (arith, ints)

-- ---- values

-- a difference times n
times_n : (n a b : ℕ) (d : ℤ) → (pos a +ℤ d) ≤ℤ pos b → (pos (n * a) +ℤ (pos n *ℤ d)) ≤ℤ pos (n * b)
times_n n a b (pos d) le = let m : n * (a + d) ≤ n * b = mul-le-mul_left n (omega (arith, ints)) in omega (arith, ints)
times_n n a b (negsuc d) le = let m : n * a ≤ n * (b + suc d) = mul-le-mul_left n (omega (arith, ints)) in omega (arith, ints)

-- where clock b is ahead of clock a by d, and a wait of allowance less burden d passes, a has less value
pub less_value : (n a b : ℕ) (d waiter awaited : ℤ) → (pos a +ℤ d) ≤ℤ pos b → pos 0 ≤ℤ (((pos n *ℤ d) -ℤ pos 1) +ℤ waiter -ℤ awaited) → (pos (n * a) +ℤ awaited) <ℤ (pos (n * b) +ℤ waiter)
less_value n a b d waiter awaited apart passes = let m = times_n n a b d apart in omega (arith, ints)

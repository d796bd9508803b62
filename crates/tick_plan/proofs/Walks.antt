-- Walks that give heights, over any function f that says how far a wait raises its waiter.
use Rattle.std.proofs.Common.{◌≡◌, ◌≢◌, ℕ, ◌+◌, ◌*◌, ◌<◌, ◌≤◌, ℤ, pos, ◌+ℤ◌, ◌-ℤ◌, ◌*ℤ◌, ◌≤ℤ◌, ◌<ℤ◌, List, [], ◌∷◌, length, take, get_or, suc, zero, refl, ap, sym, ◌∙◌, subst, arith, eqb}
use Rattle.std.proofs.lemmas.Int.{ints}
use Rattle.std.proofs.lemmas.List.Sums.{sum_by-take-le}
use Rattle.std.proofs.lemmas.List.Elements.{All-tail, All-weaker, All-cons, All-take}
use Rattle.std.proofs.lemmas.Bool.Decides.{nat_tests}
use Rattle.std.proofs.Math.IntN.{pos-*ℤ-pos}
use Rattle.std.specs.List.{All, Contains}
use Rattle.scene_model.specs.Cover.{IsWalk, AreAmong, sum_of, allowances, burdens, IsUncovered, WaitsOnce, IsWithin, greatest_shortfall}
use Rattle.scene_model.specs.Limits.{most_apps}
use Rattle.scene_model.specs.declared.wait.Wait.{Wait}
use Rattle.scene_model.proofs.Walks.{scaled-add, scaled-sub, scaled-nonneg, end_of, end_of-take, IsWalk-take, one_if, count_at-cons, left-come, length-le_from_once}
use Rattle.scene_model.proofs.Cycles.{All-among, uncovered_from_excess}
use Rattle.tick_plan.specs.Bounds.{greatest_rise}
use Rattle.tick_plan.specs.Heights.{rise_of, walk_height, RestsWithin, comes_to, GivesHeight}

-- ---- the rise of a list

pub sum_of-rise_of : (n : ℕ) (ws : List Wait) → sum_of (rise_of n) ws ≡ pos (length ws) -ℤ pos n *ℤ (allowances ws -ℤ burdens ws)
sum_of-rise_of n [] = omega (arith, ints, scaled-sub n (pos 0) (pos 0))
sum_of-rise_of n (w ∷ ws) =
    omega (
      arith,
      ints,
      sum_of-rise_of n ws,
      scaled-sub n w.allowance w.burden,
      scaled-sub n (allowances ws) (burdens ws),
      scaled-sub n (w.allowance +ℤ allowances ws) (w.burden +ℤ burdens ws),
      scaled-add n w.allowance (allowances ws),
      scaled-add n w.burden (burdens ws),
    )

-- a short list that rises is not covered
pub uncovered_from_rise : (n : ℕ) (ws : List Wait) → length ws ≤ n → pos 0 <ℤ sum_of (rise_of n) ws → allowances ws ≤ℤ burdens ws
uncovered_from_rise n ws short high = uncovered_from_excess n ws short (omega (arith, ints, high, sum_of-rise_of n ws))

pub rise_of-le : (n : ℕ) (w : Wait) → w.burden ≤ℤ (w.allowance +ℤ pos greatest_shortfall) → rise_of n w ≤ℤ pos (n * greatest_shortfall + 1)
rise_of-le n w short =
    let over : pos 0 ≤ℤ (pos n *ℤ ((w.allowance -ℤ w.burden) +ℤ pos greatest_shortfall)) =
    scaled-nonneg n ((w.allowance -ℤ w.burden) +ℤ pos greatest_shortfall) (omega (arith, ints)) in
    omega (arith, ints, over, scaled-add n (w.allowance -ℤ w.burden) (pos greatest_shortfall), pos-*ℤ-pos n greatest_shortfall)

pub rise_of-le_greatest : (n : ℕ) (w : Wait) → n ≤ most_apps → w.burden ≤ℤ (w.allowance +ℤ pos greatest_shortfall) → rise_of n w ≤ℤ pos greatest_rise
rise_of-le_greatest n w few short = omega (arith, ints, rise_of-le n w short)

-- ---- heights by walks

-- a walk gives its rises, and the height at which it ends
pub walk_height-end : (f : Wait → ℤ) (starts : ℕ → ℕ) (a : ℕ) (ws : List Wait) → walk_height f starts a ws ≡ sum_of f ws +ℤ pos (starts (end_of a ws))
walk_height-end f starts a [] = omega (arith, ints)
walk_height-end f starts a (w ∷ ws) = omega (arith, ints, walk_height-end f starts w.awaited ws)

-- where it starts low, and each wait rises by at most b
pub walk_height-le : (f : Wait → ℤ) (starts : ℕ → ℕ) (low b : ℕ) → ((v : ℕ) → starts v ≤ low) → (a : ℕ) (ws : List Wait) →
    All (λ w. f w ≤ℤ pos b) ws → walk_height f starts a ws ≤ℤ pos (low + length ws * b)
walk_height-le f starts low b lows a [] rises = omega (arith, ints, lows a)
walk_height-le f starts low b lows a (w ∷ ws) rises =
    omega (arith, ints, rises 0 w (omega arith), walk_height-le f starts low b lows w.awaited ws (All-tail (λ w. f w ≤ℤ pos b) w ws rises))

-- greater heights keep the rests of a walk within
pub RestsWithin-higher : (f : Wait → ℤ) (starts p q : ℕ → ℕ) → ((v : ℕ) → p v ≤ q v) → (a : ℕ) (ws : List Wait) → RestsWithin f starts p a ws → RestsWithin f starts q a ws
RestsWithin-higher f starts p q le a [] h = omega (arith, le a)
RestsWithin-higher f starts p q le a (w ∷ ws) h = (omega (arith, ints, le a, h.0), RestsWithin-higher f starts p q le w.awaited ws h.1)

-- a walk gives no more than its first k waits and the height at which they end
pub walk_height-take : (f : Wait → ℤ) (starts p : ℕ → ℕ) (k : ℕ) (a : ℕ) (ws : List Wait) → RestsWithin f starts p a ws →
    walk_height f starts a ws ≤ℤ (sum_of f (take k ws) +ℤ pos (p (end_of a (take k ws))))
walk_height-take f starts p zero a [] h = omega (arith, ints)
walk_height-take f starts p zero a (w ∷ ws) h = omega (arith, ints, h.0)
walk_height-take f starts p (suc k) a [] h = omega (arith, ints)
walk_height-take f starts p (suc k) a (w ∷ ws) h = omega (arith, ints, walk_height-take f starts p k w.awaited ws h.1)

-- ---- how often a walk comes to an application

pub comes_to-cons : (x : ℕ) (w : Wait) (ws : List Wait) → comes_to x (w ∷ ws) ≡ one_if (eqb w.awaited x) + comes_to x ws
comes_to-cons x w ws = count_at-cons (λ w. w.awaited) x w ws

one_not : (v x : ℕ) → v ≢ x → one_if (eqb v x) ≡ 0
one_not v x ne = grind (arith, nat_tests)

pub comes_to-none : (a : ℕ) (ws : List Wait) → All (λ w. w.awaited ≢ a) ws → comes_to a ws ≡ 0
comes_to-none a [] none = refl
comes_to-none a (w ∷ ws) none =
    omega (arith, comes_to-cons a w ws, one_not w.awaited a (none 0 w (omega arith)), comes_to-none a ws (All-tail (λ w. w.awaited ≢ a) w ws none))

one_more : (v x n : ℕ) → (v ≡ x → n ≡ 0) → n ≤ 1 → one_if (eqb v x) + n ≤ 1
one_more v x n away once = grind (arith, nat_tests)

-- a wait, and a walk on from it, come to no application twice
pub comes_to-once : (e : Wait) (ws : List Wait) → comes_to e.awaited ws ≡ 0 → ((x : ℕ) → comes_to x ws ≤ 1) → (x : ℕ) → comes_to x (e ∷ ws) ≤ 1
comes_to-once e ws away once x =
    omega (arith, comes_to-cons x e ws, one_more e.awaited x (comes_to x ws) (λ same. ap (λ z. comes_to z ws) (sym same) ∙ away) (once x))

-- so they are no more waits than there are applications
pub short_from_once : (n : ℕ) (all ws : List Wait) → All (IsWithin n) all → AreAmong all ws → ((x : ℕ) → comes_to x ws ≤ 1) → length ws ≤ n
short_from_once n all ws within among once =
    let each : All (IsWithin n) ws = All-among (IsWithin n) all ws within among in
    length-le_from_once (λ w. w.awaited) n ws (All-weaker (IsWithin n) (λ w. w.awaited < n) (λ w h. h.awaited) ws each) once

-- how far each wait of a list of them rises
pub rises-le : (n : ℕ) (all ws : List Wait) → All (IsWithin n) all → AreAmong all ws → All (λ w. rise_of n w ≤ℤ pos (n * greatest_shortfall + 1)) ws
rises-le n all ws within among =
    All-weaker (IsWithin n) (λ w. rise_of n w ≤ℤ pos (n * greatest_shortfall + 1)) (λ w h. rise_of-le n w h.shortfall) ws (All-among (IsWithin n) all ws within among)

pub rises-le_greatest : (n : ℕ) (all ws : List Wait) → n ≤ most_apps → All (IsWithin n) all → AreAmong all ws → All (λ w. rise_of n w ≤ℤ pos greatest_rise) ws
rises-le_greatest n all ws few within among =
    All-weaker (IsWithin n) (λ w. rise_of n w ≤ℤ pos greatest_rise) (λ w h. rise_of-le_greatest n w few h.shortfall) ws (All-among (IsWithin n) all ws within among)

-- ---- a walk that comes back to the waiter of the wait before it

-- the wait, and the walk up to where it comes back
pub cut-IsWalk : (e : Wait) (ws : List Wait) (k : ℕ) (d : Wait) (z : ℕ) → IsWalk e.awaited ws z → k < length (e ∷ ws) →
    (get_or (e ∷ ws) k d).awaited ≡ e.waiter → IsWalk e.awaited (take k ws) e.waiter
cut-IsWalk e ws k d z walk lt back =
    let P : ℕ → Type 0 = λ b. IsWalk e.awaited (take k ws) b in
    subst P (end_of-take k e.waiter (e ∷ ws) d lt ∙ back) (IsWalk-take k e.awaited ws z walk)

-- rise, where the wait would raise its waiter
pub cut-rises : (f : Wait → ℤ) (starts p : ℕ → ℕ) (e : Wait) (ws : List Wait) (k : ℕ) (d : Wait) → RestsWithin f starts p e.awaited ws →
    walk_height f starts e.awaited ws ≡ pos (p e.awaited) → k < length (e ∷ ws) → (get_or (e ∷ ws) k d).awaited ≡ e.waiter →
    pos (p e.waiter) <ℤ (f e +ℤ pos (p e.awaited)) → pos 0 <ℤ sum_of f (e ∷ take k ws)
cut-rises f starts p e ws k d rests height lt back higher =
    let ended : p (end_of e.awaited (take k ws)) ≡ p e.waiter = ap p (end_of-take k e.waiter (e ∷ ws) d lt ∙ back) in
    omega (arith, ints, walk_height-take f starts p k e.awaited ws rests)

cut-once : (e : Wait) (ws : List Wait) (k x : ℕ) → ((x : ℕ) → comes_to x (e ∷ ws) ≤ 1) → comes_to x (e ∷ take k ws) ≤ 1
cut-once e ws k x once = omega (arith, once x, sum_by-take-le (λ (w : Wait). one_if (eqb w.awaited x)) (e ∷ ws) (suc k))

-- no application waits twice in them
cut-WaitsOnce : (e : Wait) (ws : List Wait) (k : ℕ) → IsWalk e.awaited (take k ws) e.waiter → ((x : ℕ) → comes_to x (e ∷ ws) ≤ 1) → WaitsOnce (e ∷ take k ws)
cut-WaitsOnce e ws k walk once x =
    omega (arith, left-come x e.waiter (e ∷ take k ws) e.waiter (refl, walk), cut-once e ws k x once)

-- and they are a cycle that is not covered
pub cut-uncovered : (n : ℕ) (all : List Wait) (starts p : ℕ → ℕ) (e : Wait) (ws : List Wait) (k : ℕ) (d : Wait) → All (IsWithin n) all →
    GivesHeight (rise_of n) starts p all e.awaited ws → Contains all e → k < length (e ∷ ws) → (get_or (e ∷ ws) k d).awaited ≡ e.waiter →
    pos (p e.waiter) <ℤ (rise_of n e +ℤ pos (p e.awaited)) → IsUncovered all (e ∷ take k ws) × WaitsOnce (e ∷ take k ws)
cut-uncovered n all starts p e ws k d within g in' lt back higher =
    let walk : IsWalk e.awaited (take k ws) e.waiter = cut-IsWalk e ws k d g.last g.walk lt back in
    let among : AreAmong all (e ∷ take k ws) = All-cons (Contains all) e (take k ws) in' (All-take (Contains all) k ws g.among) in
    let once : (x : ℕ) → comes_to x (e ∷ ws) ≤ 1 = comes_to-once e ws g.away g.once in
    let short : length (e ∷ take k ws) ≤ n = short_from_once n all (e ∷ take k ws) within among (λ x. cut-once e ws k x once) in
    let rises = cut-rises (rise_of n) starts p e ws k d g.rests g.height lt back higher in
    (record { cycle_of = record { closed = walk; among = among }; uncovered = uncovered_from_rise n (e ∷ take k ws) short rises }, cut-WaitsOnce e ws k walk once)

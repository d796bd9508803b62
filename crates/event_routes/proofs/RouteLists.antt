-- Routes of consecutive indices, and targets at the same ranks.
use Rattle.std.proofs.Common.{◌≡◌, ℕ, zero, suc, ◌+◌, ◌-◌, ◌*◌, ◌<◌, ◌≤◌, Bool, true, false, List, [], ◌∷◌, ◌++◌, length, take, drop, refl, ap, arith, length-drop}
use Rattle.std.specs.Prelude.{◌==◌, ◌&&◌}
use Rattle.std.proofs.lemmas.Bool.{and_parts}
use Rattle.std.proofs.lemmas.List.{drop-append-le, take-append-le, take_all}
use Rattle.event_routes.specs.Blocks.{routes_from}
use Rattle.event_routes.specs.Routing.{same_ranks}
use Rattle.event_routes.specs.declared.target.Target.{Target}

-- ---- the same ranks

pub same_ranks-length : (xs ys : List Target) → same_ranks xs ys ≡ true → length ys ≡ length xs
same_ranks-length [] [] same = refl
same_ranks-length [] (y ∷ ys) same = absurd cc
same_ranks-length (x ∷ xs) [] same = absurd cc
same_ranks-length (x ∷ xs) (y ∷ ys) same = omega (arith, same_ranks-length xs ys (and_parts (x.rank == y.rank) (same_ranks xs ys) same).1)

pub same_ranks-other_length : (xs ys : List Target) → (length xs ≡ length ys → ⊥) → false ≡ same_ranks xs ys
same_ranks-other_length [] [] differ = absurd (differ refl)
same_ranks-other_length [] (y ∷ ys) differ = refl
same_ranks-other_length (x ∷ xs) [] differ = refl
same_ranks-other_length (x ∷ xs) (y ∷ ys) differ = rw (← same_ranks-other_length xs ys (λ e. differ (omega (arith, e)))) (go (x.rank == y.rank))
  where
    go : (b : Bool) → false ≡ (b && false)
    go true = refl
    go false = refl

-- ---- one index more

suc_mul : (n k : ℕ) → suc n * k ≡ k + n * k
suc_mul n k = omega arith

pub routes_from-push : (n first ranks : ℕ) (targets more : List Target) → length targets ≡ n * ranks → length more ≡ ranks
    → routes_from (n + 1) first ranks (targets ++ more) ≡ routes_from n first ranks targets ++ record { global = first + n; targets = more } ∷ []
routes_from-push zero first ranks [] more size fits =
    let e : first + 0 ≡ first = omega arith in
    rw (e, take_all ranks more (omega (arith, fits))) refl
routes_from-push zero first ranks (x ∷ targets) more size fits = absurd (omega (arith, size))
routes_from-push (suc n) first ranks targets more size fits =
    let next : suc n + 1 ≡ suc (n + 1) = omega arith in
    let enough : ranks ≤ length targets = omega (arith, size, suc_mul n ranks) in
    let left : length (drop ranks targets) ≡ n * ranks = omega (arith, length-drop ranks targets, size, suc_mul n ranks) in
    let on : first + suc n ≡ first + 1 + n = omega arith in
    let rest = routes_from-push n (first + 1) ranks (drop ranks targets) more left fits in
    rw (next, on, take-append-le ranks targets more enough, drop-append-le ranks targets more enough) (ap (λ routes. record { global = first; targets = take ranks targets } ∷ routes) rest)

pub block-push : (first after ranks : ℕ) (targets more all : List Target) → first < after → length targets ≡ (after - first) * ranks → length more ≡ ranks → all ≡ targets ++ more
    → routes_from (after + 1 - first) first ranks all ≡ routes_from (after - first) first ranks targets ++ record { global = after; targets = more } ∷ []
block-push first after ranks targets more all some size fits is =
    let next : after + 1 - first ≡ after - first + 1 = omega arith in
    let end : first + (after - first) ≡ after = omega arith in
    let pushed = routes_from-push (after - first) first ranks targets more size fits in
    rw (is, next) (rw end at pushed)

-- Reading in turn what was made of a list, and what is made of numbers.
use Rattle.std.proofs.Common.{◌≡◌, ◌∙◌, ◌<◌, ℕ, zero, suc, ◌+◌, List, [], ◌∷◌, ◌++◌, map, Result, Ok, Err, ap, sym, refl, arith, add-zero, zero-add}
use Rattle.std.specs.List.{range_with_len}
use Rattle.std.proofs.lemmas.List.FromFn.{map-range_with_len_more}
use Rattle.music_base.specs.Numbers.{below}
use Rattle.text_words.specs.InTurn.{in_turn, ◌>>=◌}

-- to read what f makes of each is to read the list of what it makes
pub in_turn-of_map : {A B X E : Type 0} (read : List B → X → Result B E) (f : A → X) (before : List B) (xs : List A) → in_turn (λ ys x. read ys (f x)) before xs ≡ in_turn read before (map f xs)
in_turn-of_map read f before [] = refl
in_turn-of_map {A} {B} {X} {E} read f before (x ∷ xs) = go (read before (f x)) (λ y. in_turn-of_map read f (before ++ y ∷ []) xs)
  where
    go : (r : Result B E)
        → ((y : B) → in_turn (λ ys x. read ys (f x)) (before ++ y ∷ []) xs ≡ in_turn read (before ++ y ∷ []) (map f xs))
        → (r >>= λ y. in_turn (λ ys x. read ys (f x)) (before ++ y ∷ []) xs) ≡ (r >>= λ y. in_turn read (before ++ y ∷ []) (map f xs))
    go (Ok y) rest = rest y
    go (Err e) rest = refl

-- Where g i is read of what f makes of i, beside what g makes of the numbers before, reading from k on goes on with what g
-- makes.
pub in_turn-numbers : {A B E : Type 0} (read : List B → A → Result B E) (f : ℕ → A) (g : ℕ → B) (k m : ℕ)
    → ((i : ℕ) → i < k + m → read (map g (below i)) (f i) ≡ Ok (g i))
    → in_turn read (map g (below k)) (map f (range_with_len k m)) ≡ Ok (map g (below (k + m)))
in_turn-numbers read f g k zero each = ap (λ n. Ok (map g (below n))) (sym (add-zero k))
in_turn-numbers read f g k (suc m) each =
    let first = each k (omega arith) in
    let more = map-range_with_len_more g 0 k k (zero-add k) in
    let rest = in_turn-numbers read f g (k + 1) m (λ i lt. each i (omega (arith, lt))) in
    let sum : k + 1 + m ≡ k + suc m = omega arith in
    ap (λ r. r >>= λ y. in_turn read (map g (below k) ++ y ∷ []) (map f (range_with_len (k + 1) m))) first
    ∙ ap (λ ys. in_turn read ys (map f (range_with_len (k + 1) m))) (sym more)
    ∙ rest
    ∙ ap (λ n. Ok (map g (below n))) sum

-- The times of a period: how many lie below a time, and items made of them one by one.
use Rattle.std.proofs.Common.{ℕ, ◌≡◌, ◌+◌, ◌*◌, ◌-◌, ◌<◌, ◌≤◌, List, [], ◌∷◌, ◌++◌, map, refl, arith, append_assoc, inl, inr}
use Rattle.std.specs.List.{range_with_len}
use Rattle.std.proofs.lemmas.Bool.{cases_lt}
use Rattle.std.proofs.lemmas.Grind.{div_ceil_times}
use Rattle.std.proofs.lemmas.List.{map-append}
use Rattle.std.proofs.lemmas.List.FromFn.{map-range_with_len_more}
use Rattle.scene_model.specs.Turns.{times_below, times_between}
use Rattle.scene_model.proofs.Times.{lt-times_below}

-- each of the times below is one, whatever b is called
pub below_times : (every first x i b : ℕ) → 1 ≤ every → b ≡ times_below every first x → i < b → first + i * every < x
below_times every first x i b some is lt = (lt-times_below every first x i some).0 (omega (arith, is))

-- and a time below x is one of them
pub times_pass : (every first x i b : ℕ) → 1 ≤ every → b ≡ times_below every first x → first + i * every < x → i < b
times_pass every first x i b some is lt = let less : i < times_below every first x = (lt-times_below every first x i some).1 lt in omega (arith, is)

-- the first time that is not below x is not far behind it
pub start_close : (every first x b : ℕ) → 1 ≤ every → b ≡ times_below every first x → b * every < (x - first) + every
unfolding times_below
start_close every first x b some is = rw is (div_ceil_times (x - first) every (omega arith)).1

-- where it is not below y, there is none between
pub none_between : (every first x y b c : ℕ) → 1 ≤ every → b ≡ times_below every first x → c ≡ times_below every first y → y ≤ first + b * every → c - b ≡ 0
none_between every first x y b c some is are past = elim (cases_lt b c) [
  | inl lt ↦ let at : first + b * every < y = below_times every first y b c some are lt in absurd (omega arith)
  | inr le ↦ omega arith
]

-- one item more
pub repeated_more : {X : Type 0} (f : ℕ → X) (old items : List X) (every first b n t : ℕ)
    → items ≡ old ++ map f (map (λ i. first + i * every) (range_with_len b n)) → t ≡ first + (b + n) * every
    → items ++ f t ∷ [] ≡ old ++ map f (map (λ i. first + i * every) (range_with_len b (n + 1)))
repeated_more f old items every first b n t made at =
    let g : ℕ → ℕ = λ i. first + i * every in
    let grown : map g (range_with_len b (n + 1)) ≡ map g (range_with_len b n) ++ g (b + n) ∷ [] = map-range_with_len_more g b n (b + n) refl in
    rw (grown, map-append, made, at, append_assoc) refl

-- and all of them
pub repeated_all : {X : Type 0} (f : ℕ → X) (old items : List X) (every first x y n : ℕ)
    → items ≡ old ++ map f (map (λ i. first + i * every) (range_with_len (times_below every first x) n)) → n ≡ times_below every first y - times_below every first x
    → items ≡ old ++ map f (times_between every first x y)
unfolding times_between
repeated_all f old items every first x y n made at = rw (← at) made

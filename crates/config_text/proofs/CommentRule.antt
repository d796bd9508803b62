-- The comment begins at the first '#' with an even number of quotation marks before it.
use Rattle.std.proofs.Common.{◌≡◌, ℕ, zero, suc, ◌+◌, ◌<◌, ◌%◌, Bool, true, false, not, cond, ◌&&◌, List, [], ◌∷◌, length, take, get_or, refl, sym, ap, ◌∙◌, inl, inr, arith}
use Rattle.std.specs.List.{count_by}
use Rattle.std.proofs.lemmas.Bool.{and_parts, cases_Bool, true≢false}
use Rattle.std.proofs.lemmas.List.Sums.{sum_by-cons}
use Rattle.config_text.specs.Bytes.{is_comment_sign, is_quote}
use Rattle.config_text.specs.Parts.{before_comment_after, before_comment, BeginsComment}

-- one more quotation mark than even is odd
odd : Bool → ℕ
odd true = 0
odd false = 1

-- a '#' at place i of what follows an even or an odd number of quotation marks
record BeginsAfter (even : Bool) (line : List ℕ) (i : ℕ) : Type 0 where
  sign : is_comment_sign (get_or line i 0) ≡ true
  quotes : (count_by is_quote (take i line) + odd even) % 2 ≡ 0

next_even : Bool → ℕ → Bool
next_even even b = cond (is_quote b) (not even) even

-- the number of quotation marks with one byte more in front
quotes-cons : (b : ℕ) (line : List ℕ) → count_by is_quote (b ∷ line) ≡ cond (is_quote b) 1 0 + count_by is_quote line
quotes-cons b line = sum_by-cons (λ x. cond (is_quote x) 1 0) b line

one_more_quote : (even t : Bool) (n : ℕ) → (cond t 1 0 + n + odd even) % 2 ≡ (n + odd (cond t (not even) even)) % 2
unfolding odd
one_more_quote true true n = omega arith
one_more_quote true false n = omega arith
one_more_quote false true n = omega arith
one_more_quote false false n = omega arith

count_next : (even : Bool) (b : ℕ) (line : List ℕ) (i : ℕ) → (count_by is_quote (take (suc i) (b ∷ line)) + odd even) % 2 ≡ (count_by is_quote (take i line) + odd (next_even even b)) % 2
unfolding next_even
count_next even b line i = ap (λ (n : ℕ). (n + odd even) % 2) (quotes-cons b (take i line)) ∙ one_more_quote even (is_quote b) (count_by is_quote (take i line))

step_back : (even : Bool) (b : ℕ) (line : List ℕ) (i : ℕ) → BeginsAfter (next_even even b) line i → BeginsAfter even (b ∷ line) (suc i)
step_back even b line i begins = record { sign = begins.sign; quotes = count_next even b line i ∙ begins.quotes }

step_on : (even : Bool) (b : ℕ) (line : List ℕ) (i : ℕ) → BeginsAfter even (b ∷ line) (suc i) → BeginsAfter (next_even even b) line i
step_on even b line i begins = record { sign = begins.sign; quotes = sym (count_next even b line i) ∙ begins.quotes }

front_after : (even : Bool) (line : List ℕ) → before_comment_after even line ≡ take (length (before_comment_after even line)) line
unfolding next_even
front_after even [] = refl
front_after even (b ∷ line) =
    elim (cases_Bool (even && is_comment_sign b)) [
      | inl here ↦ rw here refl
      | inr past ↦ rw past (ap (λ (l : List ℕ). b ∷ l) (front_after (next_even even b) line))
    ]

begins_after : (even : Bool) (line : List ℕ) → length (before_comment_after even line) < length line → BeginsAfter even line (length (before_comment_after even line))
unfolding odd next_even
begins_after even [] lt = absurd (omega arith)
begins_after even (b ∷ line) lt =
    elim (cases_Bool (even && is_comment_sign b)) [
      | inl here ↦
          let parts = and_parts even (is_comment_sign b) here in
          rw here (record { sign = parts.1; quotes = rw parts.0 refl })
      | inr past ↦ rw past (step_back even b line (length (before_comment_after (next_even even b) line)) (begins_after (next_even even b) line (omega (arith, rw past at lt))))
    ]

-- after an odd number none begins at once
even_here : (even : Bool) (b : ℕ) (line : List ℕ) → BeginsAfter even (b ∷ line) 0 → (even && is_comment_sign b) ≡ true
unfolding odd
even_here true b line begins = begins.sign
even_here false b line begins = absurd (omega (arith, begins.quotes))

first_after : (even : Bool) (line : List ℕ) (i : ℕ) → i < length (before_comment_after even line) → BeginsAfter even line i → ⊥
unfolding next_even
first_after even [] i lt begins = omega arith
first_after even (b ∷ line) zero lt begins =
    elim (cases_Bool (even && is_comment_sign b)) [
      | inl here ↦ omega (arith, rw here at lt)
      | inr past ↦ true≢false (sym (even_here even b line begins) ∙ past)
    ]
first_after even (b ∷ line) (suc i) lt begins =
    elim (cases_Bool (even && is_comment_sign b)) [
      | inl here ↦ omega (arith, rw here at lt)
      | inr past ↦ first_after (next_even even b) line i (omega (arith, rw past at lt)) (step_on even b line i begins)
    ]

pub comment_front : (line : List ℕ) → before_comment line ≡ take (length (before_comment line)) line
comment_front line = front_after true line

pub comment_begins : (line : List ℕ) → length (before_comment line) < length line → BeginsComment line (length (before_comment line))
unfolding odd
comment_begins line lt =
    let begins = begins_after true line lt in
    (begins.sign, ap (λ (n : ℕ). n % 2) (omega arith) ∙ begins.quotes)

pub comment_first : (line : List ℕ) (i : ℕ) → i < length (before_comment line) → BeginsComment line i → ⊥
unfolding odd
comment_first line i lt begins =
    first_after true line i lt (record { sign = begins.0; quotes = ap (λ (n : ℕ). n % 2) (omega arith) ∙ begins.1 })

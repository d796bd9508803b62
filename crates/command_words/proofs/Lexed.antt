-- What stands in a word that `clap`'s lexer takes apart.
use Rattle.std.proofs.Common.{◌≡◌, ◌∙◌, inl, inr, ℕ, Bool, true, false, [], ◌∷◌, ◌++◌, Option, Some, None, length, get_or, ap, sym, refl, arith, true≢false, ◌==◌, append-nil}
use Rattle.std.specs.Str.{bytes_eq}
use Rattle.std.specs.List.{list_any, before_first, after_first, position_or_len}
use Rattle.std.proofs.lemmas.Bool.{cases_lt}
use Rattle.std.proofs.lemmas.Bool.Decides.{Decides-eqb}
use Rattle.std.proofs.lemmas.List.Sums.{split_at_first, passes_at_first, fails_before_first}
use Rattle.std.proofs.lemmas.List.Folds.{list_any_at}
use Rattle.clap.proofs.CutLemmas.{Lacks, before_first-Lacks, list_any-Lacks}
use Rattle.clap.specs.Lexer.{long_of, long_of_rest, name_and_value, has_byte, strip_byte, short_of, short_of_rest}
use Rattle.clap.specs.Walk.{Text}
use Rattle.command_words.proofs.Somes.{some-same, some≢none}

abbrev pub is_equals : ℕ → Bool
is_equals x = x == 61

-- an attached value, with its `=`
abbrev pub joined_tail : Option Text → Text
joined_tail None = []
joined_tail (Some v) = 61 ∷ v

pub cut_whole : (text : Text) → text ≡ (name_and_value text).0 ++ joined_tail (name_and_value text).1
cut_whole text = elim (cases_lt (position_or_len is_equals text) (length text)) [
  | inl inside ↦
      let hit = passes_at_first is_equals text 0 inside in
      let is : get_or text (position_or_len is_equals text) 0 ≡ 61 = (Decides-eqb _ _).0 hit in
      let has : has_byte 61 text ≡ true = list_any_at is_equals text (position_or_len is_equals text) 0 inside hit in
      rw has (split_at_first is_equals text 0 inside ∙ ap (λ x. before_first is_equals text ++ (x ∷ after_first is_equals text)) is)
  | inr past ↦
      let lacks : Lacks 61 text = λ i lt e.
      let miss : is_equals (get_or text i 0) ≡ false = fails_before_first is_equals text i 0 (omega arith) in
      absurd (true≢false (sym ((Decides-eqb (get_or text i 0) 61).1 e) ∙ miss)) in
      rw (list_any-Lacks 61 text lacks) (sym (before_first-Lacks 61 text lacks) ∙ sym (append-nil _))
]

eq_of : (x c : ℕ) → (x == c) ≡ true → x ≡ c
eq_of x c e = (Decides-eqb x c).0 e

-- a word that the lexer takes for a long flag
pub long_whole : (word : Text) (p : Text × Option Text) → long_of word ≡ Some p → word ≡ 45 ∷ 45 ∷ (p.0 ++ joined_tail p.1)
long_whole [] p e = absurd (some≢none p (sym e))
long_whole (x ∷ xs) p e = first (x == 45) refl e
  where
    rest : (ys : Text) → long_of_rest ys ≡ Some p → ys ≡ p.0 ++ joined_tail p.1
    rest [] f = absurd (some≢none p (sym f))
    rest (y ∷ ys) f = cut_whole (y ∷ ys) ∙ ap (λ (q : Text × Option Text). q.0 ++ joined_tail q.1) (some-same _ _ f)

    second : (ys : Text) → Rattle.std.specs.Prelude.option_and_then long_of_rest (strip_byte 45 ys) ≡ Some p → ys ≡ 45 ∷ (p.0 ++ joined_tail p.1)
    second [] f = absurd (some≢none p (sym f))
    second (y ∷ ys) f = go (y == 45) refl f
      where
        go : (b : Bool) → (y == 45) ≡ b
            → Rattle.std.specs.Prelude.option_and_then long_of_rest (Rattle.std.specs.Prelude.cond b (Some ys) None) ≡ Some p → y ∷ ys ≡ 45 ∷ (p.0 ++ joined_tail p.1)
        go true t g = (λ i. eq_of y 45 t i ∷ rest ys g i)
        go false t g = absurd (some≢none p (sym g))

    first : (b : Bool) → (x == 45) ≡ b
        → Rattle.std.specs.Prelude.option_and_then long_of_rest (Rattle.std.specs.Prelude.option_and_then (strip_byte 45) (Rattle.std.specs.Prelude.cond b (Some xs) None)) ≡ Some p
        → x ∷ xs ≡ 45 ∷ 45 ∷ (p.0 ++ joined_tail p.1)
    first true t g = (λ i. eq_of x 45 t i ∷ second xs g i)
    first false t g = absurd (some≢none p (sym g))

-- a word that the lexer takes for a bundle begins with a hyphen, and has something behind it
pub short_whole : (word flags : Text) → short_of word ≡ Some flags → word ≡ 45 ∷ flags
short_whole [] flags e = absurd (some≢none flags (sym e))
short_whole (x ∷ xs) flags e = first (x == 45) refl e
  where
    rest : (ys : Text) → short_of_rest ys ≡ Some flags → ys ≡ flags
    rest [] f = absurd (some≢none flags (sym f))
    rest (y ∷ ys) f = go (y == 45) f
      where
        go : (b : Bool) → Rattle.std.specs.Prelude.cond b None (Some (y ∷ ys)) ≡ Some flags → y ∷ ys ≡ flags
        go true g = absurd (some≢none flags (sym g))
        go false g = some-same _ _ g

    first : (b : Bool) → (x == 45) ≡ b → Rattle.std.specs.Prelude.option_and_then short_of_rest (Rattle.std.specs.Prelude.cond b (Some xs) None) ≡ Some flags → x ∷ xs ≡ 45 ∷ flags
    first true t g = (λ i. eq_of x 45 t i ∷ rest xs g i)
    first false t g = absurd (some≢none flags (sym g))

pub short_not_empty : (word flags : Text) → short_of word ≡ Some flags → (x : ℕ) × (xs : Text) × (flags ≡ x ∷ xs)
short_not_empty [] flags e = absurd (some≢none flags (sym e))
short_not_empty (x ∷ xs) flags e = first (x == 45) e
  where
    rest : (ys : Text) → short_of_rest ys ≡ Some flags → (x : ℕ) × (xs : Text) × (flags ≡ x ∷ xs)
    rest [] f = absurd (some≢none flags (sym f))
    rest (y ∷ ys) f = go (y == 45) f
      where
        go : (b : Bool) → Rattle.std.specs.Prelude.cond b None (Some (y ∷ ys)) ≡ Some flags → (x : ℕ) × (xs : Text) × (flags ≡ x ∷ xs)
        go true g = absurd (some≢none flags (sym g))
        go false g = (y, ys, sym (some-same _ _ g))

    first : (b : Bool) → Rattle.std.specs.Prelude.option_and_then short_of_rest (Rattle.std.specs.Prelude.cond b (Some xs) None) ≡ Some flags → (x : ℕ) × (xs : Text) × (flags ≡ x ∷ xs)
    first true g = rest xs g
    first false g = absurd (some≢none flags (sym g))

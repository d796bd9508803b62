-- What holds of a value that the words of a rule spell.
use Rattle.std.proofs.Common.{ℕ, List, [], ◌∷◌}
use Rattle.std.specs.Prelude.{Option, Some, None, IfSome}
use Rattle.text_words.specs.Options.{◌>>=◌}
use Rattle.text_words.proofs.Options.{IfSome-bind}
use Rattle.app_scripts.specs.Forms.{Words, after, first, only}

-- what the words of a rule spell, where each word that is spelled spells it
module _ {A : Type 0} (P : A → Type 0) (spelled : List ℕ → Option A) (is : (word : List ℕ) → IfSome (spelled word) P) where
  pub IfSome-first : (words : Words) → IfSome (first spelled words) (λ p. P p.0)
  IfSome-first [] = tt
  IfSome-first (word ∷ words) = IfSome-bind P (λ p. P p.0) (λ x. Some (x, words)) (spelled word) (is word) (λ x has. has)

  pub IfSome-only : (words : Words) → IfSome (only spelled words) P
  IfSome-only [] = tt
  IfSome-only (word ∷ []) = is word
  IfSome-only (word ∷ next ∷ words) = tt

  pub IfSome-first_after : (key : List ℕ) (words : Words) → IfSome (after key words >>= first spelled) (λ p. P p.0)
  IfSome-first_after key words = elim (after key words) as (λ o. IfSome (o >>= first spelled) (λ p. P p.0)) [ None ↦ tt | Some rest ↦ IfSome-first rest ]

  pub IfSome-only_after : (key : List ℕ) (words : Words) → IfSome (after key words >>= only spelled) P
  IfSome-only_after key words = elim (after key words) as (λ o. IfSome (o >>= only spelled) P) [ None ↦ tt | Some rest ↦ IfSome-only rest ]

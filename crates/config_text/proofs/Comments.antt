-- The comment of a line, found byte by byte.
use Rattle.std.proofs.Common.{◌≡◌, ℕ, ◌+◌, ◌<◌, Bool, true, false, not, cond, ◌&&◌, List, [], ◌∷◌, ◌++◌, length, take, drop, get_or, refl, sym, ap, ◌∙◌, append_assoc}
use Rattle.std.proofs.lemmas.List.{take_more, drop_more, append-nil}
use Rattle.config_text.specs.Bytes.{is_comment_sign, is_quote}
use Rattle.config_text.specs.Parts.{before_comment_after, before_comment}

-- What was passed is a front of the text, and what is left gives the rest of what stands before the comment.
pub record IsBeforeComment (line : List ℕ) (even : Bool) (i : ℕ) : Type 0 where
  pub so_far : take i line ++ before_comment_after even (drop i line) ≡ before_comment line

pub comment_starts : (line : List ℕ) (even : Bool) (i : ℕ) → i < length line → even ≡ true → get_or line i 0 ≡ 35 → IsBeforeComment line even i → take i line ≡ before_comment line
comment_starts line even i lt is_even hash so_far =
    let rest : before_comment_after even (drop i line) ≡ [] = rw (drop_more line i 0 lt, is_even, hash) refl in
    sym (append-nil (take i line)) ∙ ap (λ (x : List ℕ). take i line ++ x) (sym rest) ∙ so_far.so_far

pub comment_goes : (line : List ℕ) (even next : Bool) (i : ℕ) → i < length line → (even && is_comment_sign (get_or line i 0)) ≡ false → next ≡ cond (is_quote (get_or line i 0)) (not even) even
    → IsBeforeComment line even i → IsBeforeComment line next (i + 1)
comment_goes line even next i lt plain e so_far =
    let rest : before_comment_after even (drop i line) ≡ get_or line i 0 ∷ before_comment_after next (drop (i + 1) line) = rw (drop_more line i 0 lt, plain, e) refl in
    record {
      so_far = rw (take_more line i 0 lt, append_assoc (take i line) (get_or line i 0 ∷ []) (before_comment_after next (drop (i + 1) line)))
          (ap (λ (x : List ℕ). take i line ++ x) (sym rest) ∙ so_far.so_far);
    }

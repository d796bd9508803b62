-- A line that stands alone: it has no comment, and no blank at its ends.
use Rattle.std.proofs.Common.{◌≡◌, ℕ, ◌+◌, ◌-◌, Bool, true, false, ltb, ◌&&◌, List, [], ◌∷◌, ◌++◌, length, get_or, refl, sym, ap, ◌∙◌, arith}
use Rattle.std.specs.List.{list_any, list_all}
use Rattle.std.proofs.lemmas.Bool.{and_parts, or_parts, eq-eqb, true≢false}
use Rattle.std.proofs.lemmas.List.{length-append, append-nil, get_or-append_right}
use Rattle.std.proofs.lemmas.List.Sums.{AllPass-from_list_all}
use Rattle.music_base.specs.Names.{is_name, is_in_names}
use Rattle.music_base.specs.Blanks.{is_blank}
use Rattle.config_text.specs.Bytes.{is_text_byte, is_quote, is_comment_sign}
use Rattle.config_text.specs.Parts.{without_cr, before_comment_after, before_comment, without_trailing_blanks, trimmed, begins_with_blank, ends_with_blank, ends_in}
use Rattle.config_text.specs.Contents.{content_in, content_of}
use Rattle.config_text.proofs.NameBytes.{name_byte_misses, name_parts}
use Rattle.config_text.proofs.Ends.{no_cr, leading_no, trailing_no}

-- bytes of the text with no comment among them and no blanks at the ends
pub record StandsAlone (line : List ℕ) : Type 0 where
  pub text : list_all is_text_byte line ≡ true
  pub uncommented : before_comment line ≡ line
  pub begins : begins_with_blank line ≡ false
  pub ends : ends_with_blank line ≡ false

pub no_cr_in_text : (line : List ℕ) → list_all is_text_byte line ≡ true → without_cr line ≡ line
no_cr_in_text line all =
    sym (no_cr line (λ some is.
    let t : is_text_byte (get_or line (length line - 1) 0) ≡ true = AllPass-from_list_all is_text_byte line all (length line - 1) 0 (omega arith) in
    true≢false (sym (rw is at t))))

pub trimmed-same : (xs : List ℕ) → begins_with_blank xs ≡ false → ends_with_blank xs ≡ false → trimmed xs ≡ xs
trimmed-same xs begins ends = ap without_trailing_blanks (leading_no xs begins) ∙ trailing_no xs ends

pub content_alone : (line : List ℕ) → StandsAlone line → content_of line ≡ content_in line
content_alone line alone =
    let visible : before_comment (without_cr line) ≡ line = ap before_comment (no_cr_in_text line alone.text) ∙ alone.uncommented in
    rw (visible, alone.text) (ap content_in (trimmed-same line alone.begins alone.ends))

-- ---- comments

-- what has neither '#' nor a quotation mark is passed
pub comment-passes : (even : Bool) (xs ys : List ℕ) → list_any is_comment_sign xs ≡ false → list_any is_quote xs ≡ false → before_comment_after even (xs ++ ys) ≡ xs ++ before_comment_after even ys
comment-passes even [] ys signs quotes = refl
comment-passes even (x ∷ xs) ys signs quotes =
    let a = or_parts (is_comment_sign x) (list_any is_comment_sign xs) signs in
    let b = or_parts (is_quote x) (list_any is_quote xs) quotes in
    rw (a.0, b.0, go even) (ap (λ (l : List ℕ). x ∷ l) (comment-passes even xs ys a.1 b.1))
  where
    go : (even : Bool) → (even && false) ≡ false
    go true = refl
    go false = refl

-- within quotation marks '#' is passed too
pub comment-quoted : (xs ys : List ℕ) → list_any is_quote xs ≡ false → before_comment_after false (xs ++ ys) ≡ xs ++ before_comment_after false ys
comment-quoted [] ys quotes = refl
comment-quoted (x ∷ xs) ys quotes =
    let b = or_parts (is_quote x) (list_any is_quote xs) quotes in
    rw b.0 (ap (λ (l : List ℕ). x ∷ l) (comment-quoted xs ys b.1))

-- ---- ends

pub ends-append : (xs : List ℕ) (y : ℕ) (ys : List ℕ) → get_or (xs ++ y ∷ ys) (length (xs ++ y ∷ ys) - 1) 0 ≡ get_or (y ∷ ys) (length (y ∷ ys) - 1) 0
ends-append xs y ys =
    let n : length (xs ++ y ∷ ys) ≡ length xs + length (y ∷ ys) = length-append xs (y ∷ ys) in
    let i : length (xs ++ y ∷ ys) - 1 - length xs ≡ length (y ∷ ys) - 1 = omega (arith, n) in
    get_or-append_right xs (y ∷ ys) (length xs) (length (xs ++ y ∷ ys) - 1) 0 refl (omega (arith, n)) ∙ ap (λ (k : ℕ). get_or (y ∷ ys) k 0) i

pub ends_otherwise : (xs : List ℕ) (y : ℕ) (ys : List ℕ) → is_blank (get_or (y ∷ ys) (length (y ∷ ys) - 1) 0) ≡ false → ends_with_blank (xs ++ y ∷ ys) ≡ false
ends_otherwise xs y ys other = rw (ends-append xs y ys, other) (go (ltb 0 (length (xs ++ y ∷ ys))))
  where
    go : (t : Bool) → (t && false) ≡ false
    go true = refl
    go false = refl

pub ends_in_last : (xs : List ℕ) (b : ℕ) → ends_in b (xs ++ b ∷ []) ≡ true
ends_in_last xs b = eq-eqb _ b (ends-append xs b [])

pub name_begins : (name rest : List ℕ) → is_name name ≡ true → begins_with_blank (name ++ rest) ≡ false
name_begins [] rest is = absurd (true≢false (sym is))
name_begins (b ∷ name) rest is =
    let parts = and_parts (is_in_names b) (list_all is_in_names name) (name_parts (b ∷ name) is).all in
    rw (name_byte_misses is_blank refl b parts.0) (go (ltb 0 (length (b ∷ name ++ rest))))
  where
    go : (t : Bool) → (t && false) ≡ false
    go true = refl
    go false = refl

pub name_ends : (name : List ℕ) → is_name name ≡ true → is_blank (get_or name (length name - 1) 0) ≡ false
name_ends name is =
    let parts = name_parts name is in
    let last : is_in_names (get_or name (length name - 1) 0) ≡ true = AllPass-from_list_all is_in_names name parts.all (length name - 1) 0 (omega (arith, parts.some)) in
    name_byte_misses is_blank refl (get_or name (length name - 1) 0) last

pub name_alone : (name : List ℕ) → is_name name ≡ true → trimmed name ≡ name
name_alone name is =
    trimmed-same name (ap begins_with_blank (sym (append-nil name)) ∙ name_begins name [] is) (rw (name_ends name is) (go (ltb 0 (length name))))
  where
    go : (t : Bool) → (t && false) ≡ false
    go true = refl
    go false = refl

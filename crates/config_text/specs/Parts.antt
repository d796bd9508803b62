-- The parts of a line.
use Rattle.std.specs.Prelude.{◌≡◌, ℕ, ◌-◌, ◌%◌, Bool, true, not, ◌&&◌, ◌==◌, nat_lt, if◌then◌else◌, List, [], ◌∷◌, length, take, drop, slice_index, Result, Ok, Err}
use Rattle.std.specs.List.{count_by, list_any, list_all, prefix_len, suffix_len}
use Rattle.music_base.specs.Names.{is_name}
use Rattle.config_text.specs.declared.text_kind.TextKind.{TextKind}
use Rattle.config_text.specs.declared.text_kind.TextKind.TheVariants.{BadName}
use Rattle.music_base.specs.Blanks.{is_blank}
use Rattle.config_text.specs.Bytes.{carriage_return, is_comment_sign, is_quote, is_text_byte}

-- what the second part spells beside the first one, or the first fault of the two
infixl 10 ◌>>=◌
abbrev pub ◌>>=◌ : {A B : Type 0} → Result A TextKind → (A → Result B TextKind) → Result B TextKind
(Ok x) >>= f = f x
(Err kind) >>= f = Err kind

-- without one CR at the end
abbrev pub without_cr : List ℕ → List ℕ
without_cr [] = []
without_cr (b ∷ []) = if b == carriage_return then [] else b ∷ []
without_cr (b ∷ c ∷ line) = b ∷ without_cr (c ∷ line)

-- what stands before the first '#' with an even number of quotation marks before it
abbrev pub before_comment_after : Bool → List ℕ → List ℕ
before_comment_after even [] = []
before_comment_after even (b ∷ line) =
    if even && is_comment_sign b then [] else b ∷ before_comment_after (if is_quote b then not even else even) line

-- what stands before the comment
abbrev pub before_comment : List ℕ → List ℕ
before_comment line = before_comment_after true line

-- at place i of the line a comment can begin: a '#' with an even number of quotation marks before it
abbrev pub BeginsComment : List ℕ → ℕ → Type 0
BeginsComment line i = (is_comment_sign (slice_index line i) ≡ true) × (count_by is_quote (take i line) % 2 ≡ 0)

-- without blanks at both ends
abbrev pub without_leading_blanks : List ℕ → List ℕ
without_leading_blanks bytes = drop (prefix_len is_blank bytes) bytes

abbrev pub without_trailing_blanks : List ℕ → List ℕ
without_trailing_blanks bytes = take (length bytes - suffix_len is_blank bytes) bytes

abbrev pub trimmed : List ℕ → List ℕ
trimmed bytes = without_trailing_blanks (without_leading_blanks bytes)

abbrev pub begins_with_blank : List ℕ → Bool
begins_with_blank bytes = nat_lt 0 (length bytes) && is_blank (slice_index bytes 0)

abbrev pub ends_with_blank : List ℕ → Bool
ends_with_blank bytes = nat_lt 0 (length bytes) && is_blank (slice_index bytes (length bytes - 1))

-- the last byte of bytes, where there is one, is b
abbrev pub ends_in : ℕ → List ℕ → Bool
ends_in b bytes = slice_index bytes (length bytes - 1) == b

-- what stands between the first and the last byte
abbrev pub between_ends : List ℕ → List ℕ
between_ends bytes = take (length bytes - 2) (drop 1 bytes)

-- the name that stands in the text, with blanks around it or none
abbrev pub name_in : List ℕ → Result (List ℕ) TextKind
name_in text = let name = trimmed text in if is_name name then Ok name else Err BadName

-- what a setting may be given: tabs and 0x20 to 0x7E, without a quotation mark
abbrev pub is_value : List ℕ → Bool
is_value bytes = list_all is_text_byte bytes && not (list_any is_quote bytes)

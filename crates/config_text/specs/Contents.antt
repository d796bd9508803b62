-- The content of one line.
use Rattle.std.specs.Prelude.{ℕ, Bool, true, not, ◌&&◌, ◌==◌, nat_le, if◌then◌else◌, List, [], ◌∷◌, length, slice_index, Result, Ok, Err, is_some}
use Rattle.std.specs.List.{list_any, list_all, before_first, after_first}
use Rattle.music_base.specs.Names.{is_name}
use Rattle.config_text.specs.declared.link_text.LinkText.{LinkText}
use Rattle.config_text.specs.declared.text_kind.TextKind.{TextKind}
use Rattle.config_text.specs.declared.text_kind.TextKind.TheVariants.{BadByte, BadLine}
use Rattle.config_text.specs.Bytes.{quote, close_bracket, is_quote, is_equals, is_open_bracket, is_text_byte}
use Rattle.config_text.specs.Parts.{◌>>=◌, without_cr, before_comment, trimmed, ends_in, between_ends, name_in, is_value}
use Rattle.config_text.specs.Connections.{split_at_arrow, connection_in, is_link}

-- what a line says that is not faulty by itself
pub data Content : Type 0 where
  blank : Content
  section : (name : List ℕ) → Content
  setting : (name value : List ℕ) → Content
  connection : (link : LinkText) → Content

-- in quotation marks, with no other
abbrev pub is_quoted : List ℕ → Bool
is_quoted raw = nat_le 2 (length raw) && (slice_index raw 0 == quote) && ends_in quote raw && not (list_any is_quote (between_ends raw))

-- what stands between the quotation marks, or all of it where there is none
abbrev pub value_in : List ℕ → Result (List ℕ) TextKind
value_in text = let raw = trimmed text in
    if is_quoted raw then Ok (between_ends raw) else if list_any is_quote raw then Err BadLine else Ok raw

-- [NAME]
abbrev pub section_in : List ℕ → Result Content TextKind
section_in content =
    if ends_in close_bracket content then (name_in (between_ends content) >>= λ name. Ok (section name)) else Err BadLine

-- An '=' stands, and no arrow begins before it.
abbrev pub is_setting : List ℕ → Bool
is_setting content = list_any is_equals content && not (is_some (split_at_arrow (before_first is_equals content)))

-- NAME=VALUE
abbrev pub setting_in : List ℕ → Result Content TextKind
setting_in content = do
  name ← name_in (before_first is_equals content)
  value ← value_in (after_first is_equals content)
  Ok (setting name value)

-- a content with no blanks at its ends
abbrev pub content_in : List ℕ → Result Content TextKind
content_in [] = Ok blank
content_in (b ∷ bytes) =
    if is_open_bracket b then section_in (b ∷ bytes)
    else if is_setting (b ∷ bytes) then setting_in (b ∷ bytes)
    else (connection_in (b ∷ bytes) >>= λ link. Ok (connection link))

-- what a line says, or its first fault
abbrev pub content_of : List ℕ → Result Content TextKind
content_of line = let visible = before_comment (without_cr line) in
    if list_all is_text_byte visible then content_in (trimmed visible) else Err BadByte

-- names are names, values are values, and what a connection states is in range
abbrev pub is_lawful : Content → Bool
is_lawful blank = true
is_lawful (section name) = is_name name
is_lawful (setting name value) = is_name name && is_value value
is_lawful (connection link) = is_link link

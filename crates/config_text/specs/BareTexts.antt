-- Texts whose connections are written from the sender alone and state no option: a.p -> b.q or a.p -> b.q [7].
use Rattle.std.specs.Prelude.{◌≡◌, ℕ, Bool, not, ◌&&◌, ◌||◌, ◌==◌, ◌≤◌, ◌-◌, if◌then◌else◌, List, [], ◌∷◌, drop, length, take, map, Option, Some, None, Result, Ok, Err, is_none, is_some}
use Rattle.std.specs.List.{list_any, list_all, before_first, after_first, starts_with}
use Rattle.std.specs.Option.{option_map}
use Rattle.config_text.specs.declared.config.Config.{Config}
use Rattle.config_text.specs.declared.link_text.LinkText.{LinkText}
use Rattle.config_text.specs.declared.text_kind.TextKind.{TextKind}
use Rattle.config_text.specs.declared.text_kind.TextKind.TheVariants.{BadByte, BadLine}
use Rattle.config_text.specs.Bytes.{arrow, close_bracket, is_quote, is_equals, is_open_bracket, is_text_byte}
use Rattle.config_text.specs.Connections.{end_in, width_in, link_between}
use Rattle.config_text.specs.Contents.{Content, blank, connection, section_in, setting_in}
use Rattle.config_text.specs.Lines.{longest_text, raw_lines}
use Rattle.config_text.specs.Options.{no_options}
use Rattle.config_text.specs.Parts.{◌>>=◌, without_cr, before_comment, trimmed, ends_in}
use Rattle.config_text.specs.Text.{Line, config_of, fault_at}

-- what stands before the first "->", and what stands after it
abbrev pub split_at_arrow : List ℕ → Option (List ℕ × List ℕ)
split_at_arrow [] = None
split_at_arrow (b ∷ bytes) =
    if starts_with ◌==◌ (b ∷ bytes) arrow then Some ([], drop 1 bytes)
    else option_map (λ parts. (b ∷ parts.0, parts.1)) (split_at_arrow bytes)

abbrev pub without_last : List ℕ → List ℕ
without_last bytes = take (length bytes - 1) bytes

-- The right part has a '[': it ends in ']', the receiver stands before the bracket, and the width in the brackets.
abbrev pub connection_with_width : List ℕ → List ℕ → Result LinkText TextKind
connection_with_width left right =
    if ends_in close_bracket right then (do
      from ← end_in left
      to ← end_in (before_first is_open_bracket right)
      width ← width_in (without_last (after_first is_open_bracket right))
      Ok (link_between from to (Some width) no_options))
    else Err BadLine

-- The right part is the receiver, and no width is stated.
abbrev pub connection_without_width : List ℕ → List ℕ → Result LinkText TextKind
connection_without_width left right = do
  from ← end_in left
  to ← end_in right
  Ok (link_between from to None no_options)

-- what stands before and behind the arrow, with no quotation mark
abbrev pub connection_between : List ℕ → List ℕ → Result LinkText TextKind
connection_between left behind = let right = trimmed behind in
    if list_any is_quote left || list_any is_quote behind then Err BadLine
    else if list_any is_open_bracket right then connection_with_width left right
    else connection_without_width left right

abbrev pub connection_at : Option (List ℕ × List ℕ) → Result LinkText TextKind
connection_at None = Err BadLine
connection_at (Some parts) = connection_between parts.0 parts.1

abbrev pub connection_in : List ℕ → Result LinkText TextKind
connection_in content = connection_at (split_at_arrow content)

-- An '=' stands, and no "->" begins before it.
abbrev pub is_setting : List ℕ → Bool
is_setting content = list_any is_equals content && not (is_some (split_at_arrow (before_first is_equals content)))

-- a content with no blanks at its ends
abbrev pub content_in : List ℕ → Result Content TextKind
content_in [] = Ok blank
content_in (b ∷ bytes) =
    if is_open_bracket b then section_in (b ∷ bytes)
    else if is_setting (b ∷ bytes) then setting_in (b ∷ bytes)
    else (connection_in (b ∷ bytes) >>= λ link. Ok (connection link))

-- what a line says, or its first fault
abbrev pub content_of : List ℕ → Result Content TextKind
content_of line = let visible = before_comment (without_cr line) in
    if list_all is_text_byte visible then content_in (trimmed visible) else Err BadByte

abbrev pub bare_lines : List ℕ → List Line
bare_lines bytes = map content_of (raw_lines bytes)

-- The text is short enough, no line of it is faulty, and its lines spell the configuration.
pub record SpellsBare (config : Config) (bytes : List ℕ) : Type 0 where
  pub short : length bytes ≤ longest_text
  pub faultless : (i : ℕ) → fault_at (bare_lines bytes) i ≡ None
  pub is : config ≡ config_of (bare_lines bytes)

-- the connection states neither a latency nor how many blocks it keeps
abbrev pub states_no_option : LinkText → Bool
states_no_option link = is_none link.latency && is_none link.buffered

-- The line of a connection: how it is read, what it obeys, and how it is written.
use Rattle.std.specs.Prelude.{ℕ, Bool, true, not, ◌&&◌, ◌||◌, ◌==◌, if◌then◌else◌, List, [], ◌∷◌, ◌++◌, drop, Option, Some, None, Result, Ok, Err, codes}
use Rattle.std.specs.Fmt.{decimal}
use Rattle.std.specs.Int.{is_in_range}
use Rattle.std.specs.List.{list_any, before_first, after_first, starts_with}
use Rattle.std.specs.Option.{ok_or, option_map}
use Rattle.std.specs.Str.Parse.{digits_value}
use Rattle.music_base.specs.Blanks.{space, is_blank}
use Rattle.music_base.specs.Counts.{is_count}
use Rattle.music_base.specs.Names.{is_name}
use Rattle.music_base.specs.Times.{point, is_point}
use Rattle.config_text.specs.declared.arrows.Arrow.{Arrow}
use Rattle.config_text.specs.declared.arrows.Arrow.TheVariants.{FromSender, FromReceiver}
use Rattle.config_text.specs.declared.link_options.LinkOptions.{LinkOptions}
use Rattle.config_text.specs.declared.link_text.LinkText.{LinkText}
use Rattle.config_text.specs.declared.text_kind.TextKind.{TextKind}
use Rattle.config_text.specs.declared.text_kind.TextKind.TheVariants.{BadLine, BadName, BadWidth, BadOption}
use Rattle.config_text.specs.Bytes.{arrow, back_arrow, open_bracket, close_bracket, is_quote, is_open_bracket, is_close_bracket}
use Rattle.config_text.specs.Options.{options_in, is_latency, is_buffered, latency_text, buffered_text}
use Rattle.config_text.specs.Parts.{◌>>=◌, trimmed}

-- ---- the arrow

-- a content cut at an arrow
pub record AtArrow : Type 0 where
  pub before : List ℕ
  pub behind : List ℕ
  pub arrow : Arrow

-- with one more byte before the arrow
abbrev pub onto : ℕ → AtArrow → AtArrow
onto b cut = record cut { before = b ∷ cut.before }

-- cut at the arrow that begins first
abbrev pub split_at_arrow : List ℕ → Option AtArrow
split_at_arrow [] = None
split_at_arrow (b ∷ bytes) =
    if starts_with ◌==◌ (b ∷ bytes) arrow then Some (record { before = []; behind = drop 1 bytes; arrow = FromSender })
    else if starts_with ◌==◌ (b ∷ bytes) back_arrow then Some (record { before = []; behind = drop 1 bytes; arrow = FromReceiver })
    else option_map (onto b) (split_at_arrow bytes)

-- ---- how the parts are read

-- an end is a name, a point and a name: the application's and the port's
abbrev pub end_in : List ℕ → Result (List ℕ × List ℕ) TextKind
end_in text = let names = trimmed text in
    if is_name (before_first is_point names) && is_name (after_first is_point names)
    then Ok (before_first is_point names, after_first is_point names) else Err BadName

-- a width is a number of 1 to 65,536
abbrev pub most_width : ℕ
most_width = 65536

abbrev pub width_in : List ℕ → Result ℕ TextKind
width_in text = let count = trimmed text in
    if is_count count && is_in_range 1 most_width (digits_value 10 count) then Ok (digits_value 10 count) else Err BadWidth

-- what stands behind the arrow: the right end, the width text where there is one, and the option text
pub record RightPart : Type 0 where
  pub end : List ℕ
  pub width : Option (List ℕ)
  pub options : List ℕ

-- With a '[', a ']' stands behind it, and the width between them. Without one the end goes to the first blank.
abbrev pub right_in : List ℕ → Result RightPart TextKind
right_in right =
    let inside = after_first is_open_bracket right in
    if not (list_any is_open_bracket right)
    then Ok (record { end = before_first is_blank right; width = None; options = after_first is_blank right })
    else if list_any is_close_bracket inside then Ok (record {
      end = before_first is_open_bracket right;
      width = Some (before_first is_close_bracket inside);
      options = after_first is_close_bracket inside;
    })
    else Err BadLine

abbrev pub width_given : Option (List ℕ) → Result (Option ℕ) TextKind
width_given None = Ok None
width_given (Some text) = width_in text >>= λ width. Ok (Some width)

-- ---- how the connection is read

abbrev pub link_between : List ℕ × List ℕ → List ℕ × List ℕ → Option ℕ → LinkOptions → LinkText
link_between from to width options = record {
  from_app = from.0;
  from_port = from.1;
  to_app = to.0;
  to_port = to.1;
  width = width;
  latency = options.latency;
  buffered = options.buffered;
}

-- the sender stands before the arrow or behind it
abbrev pub directed : Arrow → List ℕ × List ℕ → List ℕ × List ℕ → Option ℕ → LinkOptions → LinkText
directed FromSender left right width options = link_between left right width options
directed FromReceiver left right width options = link_between right left width options

-- no quotation mark stands on either side of the arrow
abbrev pub connection_of : AtArrow → Result LinkText TextKind
connection_of cut =
    if list_any is_quote cut.before || list_any is_quote cut.behind then Err BadLine else do
      part ← right_in (trimmed cut.behind)
      left ← end_in cut.before
      right ← end_in part.end
      width ← width_given part.width
      options ← ok_or (options_in part.options) BadOption
      Ok (directed cut.arrow left right width options)

-- a content that has no arrow is no line of any kind
abbrev pub connection_at : Option AtArrow → Result LinkText TextKind
connection_at None = Err BadLine
connection_at (Some cut) = connection_of cut

abbrev pub connection_in : List ℕ → Result LinkText TextKind
connection_in content = connection_at (split_at_arrow content)

-- ---- what it obeys

abbrev pub is_width : Option ℕ → Bool
is_width None = true
is_width (Some width) = is_in_range 1 most_width width

abbrev pub is_link : LinkText → Bool
is_link link =
    is_name link.from_app && is_name link.from_port && is_name link.to_app && is_name link.to_port
    && is_width link.width && is_latency link.latency && is_buffered link.buffered

-- ---- how it is written

-- a.p
abbrev pub end_text : List ℕ → List ℕ → List ℕ
end_text app port = app ++ point ∷ port

-- nothing, or [7] behind a space
abbrev pub width_text : Option ℕ → List ℕ
width_text None = []
width_text (Some width) = space ∷ open_bracket ∷ decimal width ++ close_bracket ∷ []

-- a.p -> b.q, and then what is stated, each behind a space
abbrev pub link_line : LinkText → List ℕ
link_line link =
    end_text link.from_app link.from_port
    ++ codes " -> "
    ++ end_text link.to_app link.to_port
    ++ width_text link.width
    ++ latency_text link.latency
    ++ buffered_text link.buffered

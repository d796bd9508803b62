-- Words of the inner calls alone: no clause of a public call has them.
use Rattle.std.specs.Prelude.{◌≡◌, ℕ, Bool, not, ◌&&◌, if◌then◌else◌, List, [], ◌∷◌, ◌++◌, None, Result, Ok, Err}
use Rattle.std.specs.List.{list_all}
use Rattle.std.specs.Option.{option_map}
use Rattle.config_text.specs.declared.text_kind.TextKind.{TextKind}
use Rattle.config_text.specs.declared.text_kind.TextKind.TheVariants.{BadByte}
use Rattle.config_text.specs.declared.text_fault.TextFault.{TextFault}
use Rattle.config_text.specs.declared.text_fault.TextFault.TheVariants as text_faults
use Rattle.config_text.specs.declared.reading.LineFault.{LineFault}
use Rattle.config_text.specs.declared.reading.LineFault.TheVariants as line_faults
use Rattle.config_text.specs.declared.config.Config.{Config}
use Rattle.config_text.specs.declared.link_text.LinkText.{LinkText}
use Rattle.config_text.specs.declared.arrows.LentCut.{LentCut}
use Rattle.config_text.specs.declared.connection.End.{End}
use Rattle.config_text.specs.declared.connection.LentPart.{LentPart}
use Rattle.config_text.specs.declared.connection.Connection.{Connection}
use Rattle.config_text.specs.declared.content.LentContent.{LentContent}
use Rattle.config_text.specs.declared.content.LentContent.TheVariants as lent
use Rattle.config_text.specs.Connections.{AtArrow, RightPart, link_between}
use Rattle.config_text.specs.Contents.{Content, blank, section, setting, connection, value_in}
use Rattle.config_text.specs.Bytes.{equals, is_quote, is_comment_sign, is_text_byte}
use Rattle.config_text.specs.Parts.{◌>>=◌, name_in, without_cr, before_comment}
use Rattle.config_text.specs.Pairs.{SectionList, onto_last}
use Rattle.config_text.specs.Text.{fault_beside}

-- ---- what is lent from a line

-- what a call returned, seen by view, is what the definition reads
abbrev pub Gives : {X Y : Type 0} → (X → Y) → Result X TextKind → Result Y TextKind → Type 0
Gives view (Ok x) reading = reading ≡ Ok (view x)
Gives view (Err kind) reading = reading ≡ Err kind

abbrev pub names_of : End → List ℕ × List ℕ
names_of end = (end.app.now, end.port.now)

abbrev pub cut_of : LentCut → AtArrow
cut_of c = record { before = c.before.now; behind = c.behind.now; arrow = c.arrow }

abbrev pub part_of : LentPart → RightPart
part_of p = record { end = p.end.now; width = option_map (λ w. w.now) p.width; options = p.options.now }

abbrev pub link_of : Connection → LinkText
link_of c = link_between (names_of c.from) (names_of c.to) c.width c.options

abbrev pub seen : LentContent → Content
seen lent.Blank = blank
seen (lent.Section name) = section name.now
seen (lent.Setting name value) = setting name.now value.now
seen (lent.Connection c) = connection (link_of c)

-- ---- the line of a setting, by its front

-- The line is a name, with blanks around it or none, an '=' and what stands behind that.
abbrev pub IsSettingFront : List ℕ → List ℕ → List ℕ → Type 0
IsSettingFront line name behind = (before : List ℕ) × (line ≡ before ++ equals ∷ behind) × (name_in before ≡ Ok name)

-- what may stand in a line that has neither a comment nor quotation marks
abbrev pub is_plain_byte : ℕ → Bool
is_plain_byte b = is_text_byte b && not (is_quote b) && not (is_comment_sign b)

-- the value that stands behind the '=', to the end of the line
abbrev pub value_behind : List ℕ → Result (List ℕ) TextKind
value_behind behind = let visible = before_comment (without_cr behind) in
    if list_all is_text_byte visible then value_in visible else Err BadByte

-- what a setting's line of this name says
abbrev pub setting_before : List ℕ → List ℕ → Result Content TextKind
setting_before name behind = value_behind behind >>= λ value. Ok (setting name value)

-- ---- one more line

-- with one more setting, in the last section or in the defaults
abbrev pub with_setting : Config → List ℕ × List ℕ → SectionList → Config
with_setting config pair [] = record config { defaults = config.defaults ++ pair ∷ [] }
with_setting config pair (first ∷ others) = record config { sections = onto_last pair (first ∷ others) }

abbrev pub with_content : Config → Content → Config
with_content config blank = config
with_content config (section name) = record config { sections = config.sections ++ (name, []) ∷ [] }
with_content config (setting name value) = with_setting config (name, value) config.sections
with_content config (connection link) = record config { links = config.links ++ link ∷ [] }

abbrev pub with_line : Config → Result Content TextKind → Config
with_line config (Ok content) = with_content config content
with_line config (Err kind) = config

-- the line has no fault beside the configuration, which it takes from old to new
pub record Adds (old : Config) (line : Result Content TextKind) (new : Config) : Type 0 where
  pub faultless : fault_beside old line ≡ None
  pub is : new ≡ with_line old line

-- what is said of the kind, where the fault is not want of memory
abbrev pub OnKind : LineFault → (TextKind → Type 0) → Type 0
OnKind line_faults.Memory P = Unit {0}
OnKind (line_faults.Fault kind) P = P kind

-- the fault of a line, at its place
abbrev pub at_line : ℕ → LineFault → TextFault
at_line line line_faults.Memory = text_faults.Memory
at_line line (line_faults.Fault kind) = text_faults.At line kind

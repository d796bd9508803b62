-- The whole text: which configuration it spells, or which line is its first faulty one.
use Rattle.std.specs.Prelude.{◌≡◌, ℕ, zero, suc, ◌<◌, ◌≤◌, nat_le, if◌then◌else◌, List, [], ◌∷◌, length, take, map, slice_index_or, Option, Some, None, Result, Ok, Err, is_some}
use Rattle.std.specs.Option.{unwrap_or}
use Rattle.config_text.specs.declared.text_kind.TextKind.{TextKind}
use Rattle.config_text.specs.declared.text_kind.TextKind.TheVariants.{RepeatedSection, RepeatedSetting, TooManySections, TooManyLinks, TooLong}
use Rattle.config_text.specs.declared.text_fault.TextFault.{TextFault}
use Rattle.config_text.specs.declared.text_fault.TextFault.TheVariants.{At, Memory}
use Rattle.config_text.specs.declared.link_text.LinkText.{LinkText}
use Rattle.config_text.specs.declared.config.Config.{Config}
use Rattle.config_text.specs.Pairs.{SettingList, SectionList, value_of, last_value}
use Rattle.config_text.specs.Lines.{raw_lines, longest_text}
use Rattle.config_text.specs.Lawful.{most_sections, most_links}
use Rattle.config_text.specs.Contents.{Content, blank, section, setting, connection, content_of}

-- what a line says, or the fault that it has by itself
abbrev pub Line : Type 0
Line = Result Content TextKind

abbrev pub lines : List ℕ → List Line
lines bytes = map content_of (raw_lines bytes)

-- ---- what the lines spell

-- the settings before the first section line
abbrev pub settings_before_section : List Line → SettingList
settings_before_section [] = []
settings_before_section (Ok (section name) ∷ lines) = []
settings_before_section (Ok (setting name value) ∷ lines) = (name, value) ∷ settings_before_section lines
settings_before_section (_ ∷ lines) = settings_before_section lines

-- each section, with the settings between its line and the next section line
abbrev pub sections_of : List Line → SectionList
sections_of [] = []
sections_of (Ok (section name) ∷ lines) = (name, settings_before_section lines) ∷ sections_of lines
sections_of (_ ∷ lines) = sections_of lines

-- the connections, wherever they stand
abbrev pub links_of : List Line → List LinkText
links_of [] = []
links_of (Ok (connection link) ∷ lines) = link ∷ links_of lines
links_of (_ ∷ lines) = links_of lines

abbrev pub config_of : List Line → Config
config_of lines = record { defaults = settings_before_section lines; sections = sections_of lines; links = links_of lines }

-- ---- faults

-- the settings of the last section, or the defaults where there is no section
abbrev pub open_settings : Config → SettingList
open_settings config = unwrap_or (last_value config.sections) config.defaults

-- the fault of a section line: its name stands above, or it is the 33rd
abbrev pub section_fault : Config → List ℕ → Option TextKind
section_fault config name =
    if is_some (value_of config.sections name) then Some RepeatedSection
    else if nat_le most_sections (length config.sections) then Some TooManySections else None

-- the fault of a setting: its name stands above in its section, or among the defaults where it is one of them
abbrev pub setting_fault : Config → List ℕ → Option TextKind
setting_fault config name = if is_some (value_of (open_settings config) name) then Some RepeatedSetting else None

-- the fault of a connection: it is the 65th
abbrev pub link_fault : Config → Option TextKind
link_fault config = if nat_le most_links (length config.links) then Some TooManyLinks else None

-- the fault of a line beside the configuration that the lines before it spell
abbrev pub fault_beside : Config → Line → Option TextKind
fault_beside config (Err kind) = Some kind
fault_beside config (Ok blank) = None
fault_beside config (Ok (section name)) = section_fault config name
fault_beside config (Ok (setting name value)) = setting_fault config name
fault_beside config (Ok (connection link)) = link_fault config

-- the fault of the line at place i from 0; past the last line there is none
unfoldable pub fault_at : List Line → ℕ → Option TextKind
fault_at lines i = fault_beside (config_of (take i lines)) (slice_index_or lines i (Ok blank))

-- The text is short enough, no line of it is faulty, and its lines spell the configuration.
pub record Spells (config : Config) (bytes : List ℕ) : Type 0 where
  pub short : length bytes ≤ longest_text
  pub faultless : (i : ℕ) → fault_at (lines bytes) i ≡ None
  pub is : config ≡ config_of (lines bytes)

-- The first faulty line, counted from 1, and its first fault; or line 0 where the text is too long.
abbrev pub HasFault : List ℕ → ℕ → TextKind → Type 0
HasFault bytes zero kind = (longest_text < length bytes) × (kind ≡ TooLong)
HasFault bytes (suc i) kind =
    (length bytes ≤ longest_text) × (fault_at (lines bytes) i ≡ Some kind) × ((j : ℕ) → j < i → fault_at (lines bytes) j ≡ None)

-- the fault is the text's first one, or memory was wanting
abbrev pub IsFaultOf : List ℕ → TextFault → Type 0
IsFaultOf bytes Memory = Unit {0}
IsFaultOf bytes (At line kind) = HasFault bytes line kind

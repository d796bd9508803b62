-- The canonical spelling of a configuration.
use Rattle.std.specs.Prelude.{ℕ, Bool, ◌&&◌, ◌||◌, if◌then◌else◌, List, [], ◌∷◌, ◌++◌, map}
use Rattle.std.specs.List.{flat_map, list_any}
use Rattle.config_text.specs.declared.config.Config.{Config}
use Rattle.config_text.specs.Bytes.{quote, equals, open_bracket, close_bracket, is_comment_sign}
use Rattle.music_base.specs.Lines.{ended}
use Rattle.config_text.specs.Parts.{begins_with_blank, ends_with_blank}
use Rattle.config_text.specs.Connections.{link_line}
use Rattle.config_text.specs.Pairs.{SettingList}
use Rattle.config_text.specs.Lawful.{are_settings, are_sections, are_links}

-- a value that is not read back as it stands
abbrev pub needs_quotes : List ℕ → Bool
needs_quotes value = begins_with_blank value || ends_with_blank value || list_any is_comment_sign value

-- the value, in quotation marks where it needs them
abbrev pub raw_value : List ℕ → List ℕ
raw_value value = if needs_quotes value then quote ∷ value ++ quote ∷ [] else value

-- name=value
abbrev pub setting_line : List ℕ × List ℕ → List ℕ
setting_line pair = pair.0 ++ equals ∷ raw_value pair.1

-- [name]
abbrev pub header_line : List ℕ → List ℕ
header_line name = open_bracket ∷ name ++ close_bracket ∷ []

-- the section's line, and a line for each of its settings
abbrev pub section_lines : List ℕ × SettingList → List (List ℕ)
section_lines section = header_line section.0 ∷ map setting_line section.1

-- the defaults, then each section with its line and its settings, then the connections
abbrev pub canon_lines : Config → List (List ℕ)
canon_lines config = map setting_line config.defaults ++ flat_map section_lines config.sections ++ map link_line config.links

-- each line with its end
unfoldable pub canon : Config → List ℕ
canon config = flat_map ended (canon_lines config)

-- what the types of a configuration keep
unfoldable pub is_lawful_config : Config → Bool
is_lawful_config config = are_settings config.defaults && are_sections config.sections && are_links config.links

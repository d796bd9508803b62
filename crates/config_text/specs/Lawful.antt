-- What settings, sections and connections obey.
use Rattle.std.specs.Prelude.{ℕ, Bool, ◌&&◌, nat_le, List, length}
use Rattle.std.specs.List.{list_all}
use Rattle.music_base.specs.Names.{is_name}
use Rattle.music_base.specs.declared.limits.TheConstants.{MOST_APPS, MOST_LINKS}
use Rattle.config_text.specs.declared.link_text.LinkText.{LinkText}
use Rattle.config_text.specs.Parts.{is_value}
use Rattle.config_text.specs.Connections.{is_link}
use Rattle.config_text.specs.Pairs.{SettingList, SectionList, has_own_keys}

-- how many sections a text has at most, each an application, and how many connections
abbrev pub most_sections : ℕ
most_sections = MOST_APPS

abbrev pub most_links : ℕ
most_links = MOST_LINKS

abbrev pub is_lawful_setting : List ℕ × List ℕ → Bool
is_lawful_setting pair = is_name pair.0 && is_value pair.1

abbrev pub are_settings : SettingList → Bool
are_settings settings = list_all is_lawful_setting settings && has_own_keys settings

abbrev pub is_lawful_section : List ℕ × SettingList → Bool
is_lawful_section pair = is_name pair.0 && are_settings pair.1

abbrev pub are_sections : SectionList → Bool
are_sections sections = list_all is_lawful_section sections && has_own_keys sections && nat_le (length sections) most_sections

abbrev pub are_links : List LinkText → Bool
are_links links = list_all is_link links && nat_le (length links) most_links

-- Configurations whose applications have no times of their own.
use Rattle.std.specs.Prelude.{◌≡◌, ℕ, Bool, true, List, codes, None, is_none}
use Rattle.std.specs.List.{list_all}
use Rattle.config_text.specs.Pairs.{SettingList, value_of}
use Rattle.config_text.specs.declared.config.Config.{Config}

-- no section has a setting of the name
abbrev pub no_section_has : List (List ℕ × SettingList) → List ℕ → Bool
no_section_has sections name = list_all (λ (section : List ℕ × SettingList). is_none (value_of section.1 name)) sections

-- no `start` stands, and `stoptime` at most among the defaults
pub record HasNoOwnTimes (config : Config) : Type 0 where
  pub default_start : value_of config.defaults (codes "start") ≡ None
  pub starts : no_section_has config.sections (codes "start") ≡ true
  pub stops : no_section_has config.sections (codes "stoptime") ≡ true

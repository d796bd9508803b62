-- What a lawful configuration is made of.
use Rattle.std.proofs.Common.{◌≡◌, ◌≤◌, true, leb, ◌&&◌, length}
use Rattle.std.specs.List.{list_all}
use Rattle.std.proofs.lemmas.Bool.{and_parts, and_from, leb-true}
use Rattle.config_text.specs.declared.config.Config.{Config}
use Rattle.config_text.specs.Connections.{is_link}
use Rattle.config_text.specs.Pairs.{has_own_keys}
use Rattle.config_text.specs.Lawful.{is_lawful_setting, is_lawful_section, are_settings, are_sections, are_links}
use Rattle.config_text.specs.Canon.{is_lawful_config}

pub record LawfulParts (config : Config) : Type 0 where
  pub defaults : are_settings config.defaults ≡ true
  pub sections : are_sections config.sections ≡ true
  pub links : are_links config.links ≡ true

pub lawful_parts : (config : Config) → is_lawful_config config ≡ true → LawfulParts config
unfolding is_lawful_config
lawful_parts config lawful =
    let a = and_parts (are_settings config.defaults && are_sections config.sections) (are_links config.links) lawful in
    let b = and_parts (are_settings config.defaults) (are_sections config.sections) a.0 in
    record { defaults = b.0; sections = b.1; links = a.1 }

pub from_parts : (config : Config) → LawfulParts config → is_lawful_config config ≡ true
unfolding is_lawful_config
from_parts config parts = and_from _ _ (and_from _ _ parts.defaults parts.sections) parts.links

-- a lawful configuration, taken apart to its lists
pub record ListParts (config : Config) : Type 0 where
  pub settings : list_all is_lawful_setting config.defaults ≡ true
  pub setting_keys : has_own_keys config.defaults ≡ true
  pub sections : list_all is_lawful_section config.sections ≡ true
  pub section_keys : has_own_keys config.sections ≡ true
  pub few_sections : length config.sections ≤ 32
  pub links : list_all is_link config.links ≡ true
  pub few_links : length config.links ≤ 64

pub list_parts : (config : Config) → is_lawful_config config ≡ true → ListParts config
list_parts config lawful =
    let p = lawful_parts config lawful in
    let d = and_parts (list_all is_lawful_setting config.defaults) (has_own_keys config.defaults) p.defaults in
    let s = and_parts (list_all is_lawful_section config.sections && has_own_keys config.sections) (leb (length config.sections) 32) p.sections in
    let t = and_parts (list_all is_lawful_section config.sections) (has_own_keys config.sections) s.0 in
    let l = and_parts (list_all is_link config.links) (leb (length config.links) 64) p.links in
    record {
      settings = d.0;
      setting_keys = d.1;
      sections = t.0;
      section_keys = t.1;
      few_sections = leb-true (length config.sections) 32 s.1;
      links = l.0;
      few_links = leb-true (length config.links) 64 l.1;
    }

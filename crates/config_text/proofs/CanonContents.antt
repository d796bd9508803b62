-- The contents that the lines of a canonical spelling have.
use Rattle.std.proofs.Common.{◌≡◌, ℕ, List, ◌∷◌, ◌++◌, map, append_assoc}
use Rattle.std.specs.Prelude.{Ok}
use Rattle.std.specs.List.{flat_map}
use Rattle.config_text.specs.declared.config.Config.{Config}
use Rattle.config_text.specs.declared.link_text.LinkText.{LinkText}
use Rattle.config_text.specs.Contents.{Content, section, setting, connection}
use Rattle.config_text.specs.Pairs.{SettingList, SectionList}
use Rattle.config_text.specs.Text.{Line}

abbrev pub setting_of : List ℕ × List ℕ → Content
setting_of pair = setting pair.0 pair.1

abbrev pub section_contents : List ℕ × SettingList → List Content
section_contents s = section s.0 ∷ map setting_of s.1

abbrev pub contents : Config → List Content
contents config = map setting_of config.defaults ++ flat_map section_contents config.sections ++ map connection config.links

abbrev pub oks : List Content → List Line
oks cs = map (λ c. Ok c) cs

abbrev pub behind_defaults : SectionList → List LinkText → List Content
behind_defaults ss ls = flat_map section_contents ss ++ map connection ls

-- the defaults stand first
pub contents_split : (config : Config) → contents config ≡ map setting_of config.defaults ++ behind_defaults config.sections config.links
contents_split config = append_assoc (map setting_of config.defaults) (flat_map section_contents config.sections) (map connection config.links)

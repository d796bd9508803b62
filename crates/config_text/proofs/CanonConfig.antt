-- The contents of a canonical spelling spell the configuration.
use Rattle.std.proofs.Common.{◌≡◌, List, [], ◌∷◌, ◌++◌, map, refl, ap, ◌∙◌, append_assoc}
use Rattle.std.specs.List.{flat_map}
use Rattle.std.proofs.lemmas.List.{append-nil}
use Rattle.config_text.specs.declared.config.Config.{Config}
use Rattle.config_text.specs.declared.link_text.LinkText.{LinkText}
use Rattle.config_text.specs.Contents.{Content, connection}
use Rattle.config_text.specs.Pairs.{SettingList, SectionList}
use Rattle.config_text.specs.Text.{settings_before_section, sections_of, links_of, config_of}
use Rattle.config_text.proofs.CanonContents.{setting_of, section_contents, contents, oks, behind_defaults, contents_split}

before-settings : (ps : SettingList) (rest : List Content) → settings_before_section (oks (map setting_of ps ++ rest)) ≡ ps ++ settings_before_section (oks rest)
before-settings [] rest = refl
before-settings (p ∷ ps) rest = ap (λ (xs : SettingList). p ∷ xs) (before-settings ps rest)

sections-settings : (ps : SettingList) (rest : List Content) → sections_of (oks (map setting_of ps ++ rest)) ≡ sections_of (oks rest)
sections-settings [] rest = refl
sections-settings (p ∷ ps) rest = sections-settings ps rest

links-settings : (ps : SettingList) (rest : List Content) → links_of (oks (map setting_of ps ++ rest)) ≡ links_of (oks rest)
links-settings [] rest = refl
links-settings (p ∷ ps) rest = links-settings ps rest

-- connections hold connections alone
record HoldsLinks (ls : List LinkText) : Type 0 where
  before : settings_before_section (oks (map connection ls)) ≡ []
  sections : sections_of (oks (map connection ls)) ≡ []
  links : links_of (oks (map connection ls)) ≡ ls

links_hold : (ls : List LinkText) → HoldsLinks ls
links_hold [] = record { before = refl; sections = refl; links = refl }
links_hold (l ∷ ls) =
    let h = links_hold ls in
    record { before = h.before; sections = h.sections; links = ap (λ (xs : List LinkText). l ∷ xs) h.links }

record HoldsSections (ss : SectionList) (ls : List LinkText) : Type 0 where
  before : settings_before_section (oks (behind_defaults ss ls)) ≡ []
  sections : sections_of (oks (behind_defaults ss ls)) ≡ ss
  links : links_of (oks (behind_defaults ss ls)) ≡ ls

sections_hold : (ss : SectionList) (ls : List LinkText) → HoldsSections ss ls
sections_hold [] ls = let h = links_hold ls in record { before = h.before; sections = h.sections; links = h.links }
sections_hold (s ∷ ss) ls =
    let h = sections_hold ss ls in
    let e = append_assoc (map setting_of s.1) (flat_map section_contents ss) (map connection ls) in
    let inner : settings_before_section (oks ((map setting_of s.1 ++ flat_map section_contents ss) ++ map connection ls)) ≡ s.1 =
    ap (λ (cs : List Content). settings_before_section (oks cs)) e ∙ before-settings s.1 (behind_defaults ss ls) ∙ ap (λ (xs : SettingList). s.1 ++ xs) h.before ∙ append-nil s.1 in
    let others : sections_of (oks ((map setting_of s.1 ++ flat_map section_contents ss) ++ map connection ls)) ≡ ss =
    ap (λ (cs : List Content). sections_of (oks cs)) e ∙ sections-settings s.1 (behind_defaults ss ls) ∙ h.sections in
    let links : links_of (oks ((map setting_of s.1 ++ flat_map section_contents ss) ++ map connection ls)) ≡ ls =
    ap (λ (cs : List Content). links_of (oks cs)) e ∙ links-settings s.1 (behind_defaults ss ls) ∙ h.links in
    record { before = refl; sections = rw (inner, others) refl; links = links }

pub config_again : (config : Config) → config_of (oks (contents config)) ≡ config
config_again config =
    let h = sections_hold config.sections config.links in
    ap (λ (cs : List Content). config_of (oks cs)) (contents_split config)
    ∙ rw (before-settings config.defaults (behind_defaults config.sections config.links), sections-settings config.defaults (behind_defaults config.sections config.links), links-settings config.defaults (behind_defaults config.sections config.links), h.before, h.sections, h.links, append-nil config.defaults) refl

-- The lines of a canonical spelling are read back.
use Rattle.std.proofs.Common.{◌≡◌, ℕ, true, false, eqb, List, [], ◌∷◌, ◌++◌, map, refl, sym, ap}
use Rattle.std.specs.Prelude.{Ok}
use Rattle.std.specs.List.{list_all, flat_map}
use Rattle.std.proofs.lemmas.Bool.{and_parts, true≢false, ne_eqb}
use Rattle.music_base.specs.Names.{is_name}
use Rattle.config_text.specs.declared.config.Config.{Config}
use Rattle.config_text.specs.declared.link_text.LinkText.{LinkText}
use Rattle.config_text.specs.Bytes.{is_text_byte}
use Rattle.config_text.specs.Parts.{is_value}
use Rattle.config_text.specs.Connections.{is_link, link_line}
use Rattle.config_text.specs.Contents.{Content, connection, content_of}
use Rattle.config_text.specs.Pairs.{SettingList, SectionList, has_own_keys}
use Rattle.config_text.specs.Lines.{raw_lines}
use Rattle.config_text.specs.Text.{Line, lines}
use Rattle.config_text.specs.Lawful.{is_lawful_setting, is_lawful_section, are_settings}
use Rattle.music_base.specs.Lines.{ended}
use Rattle.config_text.specs.Canon.{setting_line, section_lines, canon_lines, canon, is_lawful_config}
use Rattle.config_text.proofs.CanonContents.{setting_of, section_contents, contents, oks}
use Rattle.config_text.proofs.ConfigParts.{list_parts}
use Rattle.config_text.proofs.WrittenSetting.{setting_alone, setting_read, header_alone, header_read}
use Rattle.config_text.proofs.WrittenLink.{link_read, link_is_text}

text_is_no_lf : (b : ℕ) → is_text_byte b ≡ true → eqb b 10 ≡ false
text_is_no_lf b text = ne_eqb b 10 (λ e. true≢false (sym (rw e at text)))

raw_lines-ended : (line rest : List ℕ) → list_all is_text_byte line ≡ true → raw_lines (ended line ++ rest) ≡ line ∷ raw_lines rest
unfolding raw_lines
raw_lines-ended [] rest text = refl
raw_lines-ended (b ∷ line) rest text =
    let parts = and_parts (is_text_byte b) (list_all is_text_byte line) text in
    rw (text_is_no_lf b parts.0, raw_lines-ended line rest parts.1) refl

-- the line holds bytes of the text, and is read as the content
record IsWritten (line : List ℕ) (content : Content) : Type 0 where
  text : list_all is_text_byte line ≡ true
  read : content_of line ≡ Ok content

abbrev AllWritten : List (List ℕ) → List Content → Type 0
AllWritten [] [] = Unit {0}
AllWritten [] (c ∷ cs) = ⊥
AllWritten (l ∷ ls) [] = ⊥
AllWritten (l ∷ ls) (c ∷ cs) = IsWritten l c × AllWritten ls cs

written-append : (ls ms : List (List ℕ)) (cs ds : List Content) → AllWritten ls cs → AllWritten ms ds → AllWritten (ls ++ ms) (cs ++ ds)
written-append [] ms [] ds a b = b
written-append [] ms (c ∷ cs) ds a b = absurd a
written-append (l ∷ ls) ms [] ds a b = absurd a
written-append (l ∷ ls) ms (c ∷ cs) ds a b = (a.0, written-append ls ms cs ds a.1 b)

written_lines : (ls : List (List ℕ)) (cs : List Content) → AllWritten ls cs → map content_of (raw_lines (flat_map ended ls)) ≡ map (λ c. Ok c) cs
unfolding raw_lines
written_lines [] [] a = refl
written_lines [] (c ∷ cs) a = absurd a
written_lines (l ∷ ls) [] a = absurd a
written_lines (l ∷ ls) (c ∷ cs) a = rw (raw_lines-ended l (flat_map ended ls) a.0.text, a.0.read) (ap (λ (xs : List Line). Ok c ∷ xs) (written_lines ls cs a.1))

settings_written : (settings : SettingList) → list_all is_lawful_setting settings ≡ true → AllWritten (map setting_line settings) (map setting_of settings)
settings_written [] lawful = tt
settings_written (p ∷ ps) lawful =
    let parts = and_parts (is_lawful_setting p) (list_all is_lawful_setting ps) lawful in
    let fits = and_parts (is_name p.0) (is_value p.1) parts.0 in
    (record { text = (setting_alone p.0 p.1 fits.0 fits.1).text; read = setting_read p.0 p.1 fits.0 fits.1 }, settings_written ps parts.1)

sections_written : (sections : SectionList) → list_all is_lawful_section sections ≡ true → AllWritten (flat_map section_lines sections) (flat_map section_contents sections)
sections_written [] lawful = tt
sections_written (s ∷ ss) lawful =
    let parts = and_parts (is_lawful_section s) (list_all is_lawful_section ss) lawful in
    let fits = and_parts (is_name s.0) (are_settings s.1) parts.0 in
    let settings = and_parts (list_all is_lawful_setting s.1) (has_own_keys s.1) fits.1 in (
      record { text = (header_alone s.0 fits.0).text; read = header_read s.0 fits.0 },
      written-append (map setting_line s.1) (flat_map section_lines ss) (map setting_of s.1) (flat_map section_contents ss) (settings_written s.1 settings.0) (sections_written ss parts.1),
    )

links_written : (links : List LinkText) → list_all is_link links ≡ true → AllWritten (map link_line links) (map connection links)
links_written [] lawful = tt
links_written (l ∷ ls) lawful =
    let parts = and_parts (is_link l) (list_all is_link ls) lawful in
    (record { text = link_is_text l parts.0; read = link_read l parts.0 }, links_written ls parts.1)

-- the lines of the canonical spelling are read as these contents
pub canon_written : (config : Config) → is_lawful_config config ≡ true → lines (canon config) ≡ oks (contents config)
unfolding canon
canon_written config lawful =
    let p = list_parts config lawful in
    let settings = settings_written config.defaults p.settings in
    let sections = sections_written config.sections p.sections in
    let links = links_written config.links p.links in
    written_lines (canon_lines config) (contents config)
    (written-append (map setting_line config.defaults ++ flat_map section_lines config.sections) (map link_line config.links) (map setting_of config.defaults ++ flat_map section_contents config.sections) (map connection config.links)
    (written-append (map setting_line config.defaults) (flat_map section_lines config.sections) (map setting_of config.defaults) (flat_map section_contents config.sections) settings sections) links)

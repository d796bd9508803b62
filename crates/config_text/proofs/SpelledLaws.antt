-- What a text spells is lawful.
use Rattle.std.proofs.Common.{◌≡◌, ℕ, zero, suc, ◌+◌, ◌<◌, ◌≤◌, Bool, true, false, ◌&&◌, leb, List, [], ◌∷◌, ◌++◌, length, map, take, get_or, Option, Some, None, cond, refl, sym, subst, ap, ◌∙◌, arith}
use Rattle.std.specs.Prelude.{Ok, Err, is_some}
use Rattle.std.specs.Option.{IfSome}
use Rattle.std.specs.List.{list_all}
use Rattle.std.proofs.lemmas.Bool.{and_parts, and_from, le-leb, true≢false, leb-false}
use Rattle.std.proofs.lemmas.List.{take_more, take_all, length-append}
use Rattle.std.proofs.lemmas.List.Folds.{list_all-append}
use Rattle.music_base.specs.Names.{is_name}
use Rattle.config_text.specs.declared.link_text.LinkText.{LinkText}
use Rattle.config_text.specs.declared.text_kind.TextKind.{TextKind}
use Rattle.config_text.specs.declared.text_kind.TextKind.TheVariants.{RepeatedSection, RepeatedSetting, TooManySections, TooManyLinks, TooLong}
use Rattle.config_text.specs.declared.text_fault.TextFault.{TextFault}
use Rattle.config_text.specs.declared.text_fault.TextFault.TheVariants as text_faults
use Rattle.config_text.specs.declared.config.Config.{Config}
use Rattle.config_text.specs.Parts.{is_value}
use Rattle.config_text.specs.Connections.{is_link}
use Rattle.config_text.specs.Contents.{blank, section, setting, connection, content_of, is_lawful}
use Rattle.config_text.specs.Pairs.{SettingList, SectionList, value_of, last_value, onto_last, has_own_keys}
use Rattle.config_text.specs.Lawful.{is_lawful_section, are_settings, are_sections, are_links}
use Rattle.config_text.specs.Canon.{is_lawful_config}
use Rattle.config_text.specs.Lines.{raw_lines}
use Rattle.config_text.specs.Text.{Line, lines, config_of, open_settings, fault_beside, fault_at, Spells, HasFault, IsFaultOf}
use Rattle.config_text.specs.Inner.{with_line, with_setting}
use Rattle.config_text.proofs.Adding.{no_repeat, open_defaults, open_last}
use Rattle.config_text.proofs.Keeping.{settings_push, sections_push, sections_onto}
use Rattle.config_text.proofs.ConfigParts.{LawfulParts, lawful_parts, from_parts}
use Rattle.config_text.proofs.OneMore.{config-push}
use Rattle.config_text.proofs.Fitting.{Reads, reads-content}

-- ---- each line

pub reads-lines : (raws : List (List ℕ)) (i : ℕ) → Reads is_lawful (get_or (map content_of raws) i (Ok blank))
reads-lines [] i = refl
reads-lines (raw ∷ raws) zero = reads-content raw
reads-lines (raw ∷ raws) (suc i) = reads-lines raws i

-- ---- a lawful configuration stays lawful

-- no fault means that both tests fail
no_first : (t u : Bool) (a b : TextKind) → cond t (Some a) (cond u (Some b) None) ≡ None → (t ≡ false) × (u ≡ false)
no_first true u a b e = absurd cc
no_first false true a b e = absurd cc
no_first false false a b e = (refl, refl)

no_one : (t : Bool) (a : TextKind) → cond t (Some a) None ≡ None → t ≡ false
no_one true a e = absurd cc
no_one false a e = refl

none_is : {X : Type 0} (o : Option X) → is_some o ≡ false → o ≡ None
none_is None e = refl
none_is (Some x) e = absurd (true≢false e)

under : (most n : ℕ) → leb most n ≡ false → n < most
under most n e = leb-false most n e

links_push : (links : List LinkText) (link : LinkText) → are_links links ≡ true → is_link link ≡ true → length links < 64 → are_links (links ++ link ∷ []) ≡ true
links_push links link lawful is room =
    let parts = and_parts (list_all is_link links) (leb (length links) 64) lawful in
    and_from _ _ (list_all-append is_link links (link ∷ []) ∙ and_from _ _ parts.0 (and_from _ _ is refl))
    (le-leb (length (links ++ link ∷ [])) 64 (omega (arith, length-append links (link ∷ []))))

-- the last section's settings are lawful
last_lawful : (sections : SectionList) (settings : SettingList) → last_value sections ≡ Some settings → list_all is_lawful_section sections ≡ true → are_settings settings ≡ true
last_lawful [] settings is all = absurd cc
last_lawful (s ∷ []) settings is all =
    let same : s.1 ≡ settings = cc in
    rw (← same) (and_parts (is_name s.0) (are_settings s.1) (and_parts (is_lawful_section s) true all).0).1
last_lawful (s ∷ t ∷ sections) settings is all = last_lawful (t ∷ sections) settings is (and_parts (is_lawful_section s) _ all).1

setting_kept : (config : Config) (sections : SectionList) (last : Option SettingList) (name value : List ℕ) → config.sections ≡ sections → last_value sections ≡ last → is_name name ≡ true → is_value value ≡ true
    → value_of (open_settings config) name ≡ None → LawfulParts config → is_lawful_config (with_setting config (name, value) sections) ≡ true
setting_kept config [] last name value have is named fits free parts =
    from_parts (record config { defaults = config.defaults ++ (name, value) ∷ [] }) (record { defaults = settings_push config.defaults name value parts.defaults named fits (open_defaults config name have free); sections = parts.sections; links = parts.links })
setting_kept config (s ∷ ss) None name value have is named fits free parts = absurd (some s ss is)
  where
    some : (s : List ℕ × SettingList) (ss : SectionList) → last_value (s ∷ ss) ≡ None → ⊥
    some s [] e = cc
    some s (t ∷ ss) e = some t ss e
setting_kept config (s ∷ ss) (Some settings) name value have is named fits free parts =
    let all : are_sections (s ∷ ss) ≡ true = subst (λ (l : SectionList). are_sections l ≡ true) have parts.sections in
    let a = and_parts (list_all is_lawful_section (s ∷ ss) && has_own_keys (s ∷ ss)) (leb (length (s ∷ ss)) 32) all in
    let b = and_parts (list_all is_lawful_section (s ∷ ss)) (has_own_keys (s ∷ ss)) a.0 in
    let old = last_lawful (s ∷ ss) settings is b.0 in
    let absent : value_of settings name ≡ None = subst (λ (o : Option SettingList). IfSome o (λ own. value_of own name ≡ None)) (ap last_value have ∙ is) (open_last config name free) in
    from_parts (record config { sections = onto_last (name, value) (s ∷ ss) }) (record { defaults = parts.defaults; sections = sections_onto (name, value) (s ∷ ss) settings is (settings_push settings name value old named fits absent) all; links = parts.links })

kept : (config : Config) (line : Line) → Reads is_lawful line → fault_beside config line ≡ None → is_lawful_config config ≡ true → is_lawful_config (with_line config line) ≡ true
kept config (Err kind) reads free lawful = lawful
kept config (Ok blank) reads free lawful = lawful
kept config (Ok (section name)) reads free lawful =
    let parts = lawful_parts config lawful in
    let tests = no_first (is_some (value_of config.sections name)) (leb 32 (length config.sections)) RepeatedSection TooManySections free in
    from_parts (record config { sections = config.sections ++ (name, []) ∷ [] }) (record {
      defaults = parts.defaults;
      sections = sections_push config.sections name [] parts.sections reads refl (none_is _ tests.0) (under 32 (length config.sections) tests.1);
      links = parts.links;
    })
kept config (Ok (setting name value)) reads free lawful =
    let fits = and_parts (is_name name) (is_value value) reads in
    setting_kept config config.sections (last_value config.sections) name value refl refl fits.0 fits.1 (no_repeat config name (sym free)) (lawful_parts config lawful)
kept config (Ok (connection link)) reads free lawful =
    let parts = lawful_parts config lawful in
    from_parts (record config { links = config.links ++ link ∷ [] }) (record {
      defaults = parts.defaults;
      sections = parts.sections;
      links = links_push config.links link parts.links reads (under 64 (length config.links) (no_one (leb 64 (length config.links)) TooManyLinks free));
    })

-- ---- the laws

lawful_to : (bytes : List ℕ) → ((i : ℕ) → fault_at (lines bytes) i ≡ None) → (n : ℕ) → n ≤ length (lines bytes) → is_lawful_config (config_of (take n (lines bytes))) ≡ true
unfolding fault_at is_lawful_config
lawful_to bytes faultless zero le = refl
lawful_to bytes faultless (suc n) le =
    let line = get_or (lines bytes) n (Ok blank) in
    let one : n + 1 ≡ suc n = omega arith in
    let more : take (suc n) (lines bytes) ≡ take n (lines bytes) ++ line ∷ [] = ap (λ (k : ℕ). take k (lines bytes)) (sym one) ∙ take_more (lines bytes) n (Ok blank) (omega arith) in
    subst (λ (c : Config). is_lawful_config c ≡ true) (sym (ap config_of more ∙ config-push (take n (lines bytes)) line))
    (kept (config_of (take n (lines bytes))) line (reads-lines (raw_lines bytes) n) (faultless n) (lawful_to bytes faultless n (omega arith)))

pub spelled_lawful : (bytes : List ℕ) (config : Config) → Spells config bytes → is_lawful_config config ≡ true
spelled_lawful bytes config spells =
    let all : take (length (lines bytes)) (lines bytes) ≡ lines bytes = take_all (length (lines bytes)) (lines bytes) (omega arith) in
    subst (λ (c : Config). is_lawful_config c ≡ true) (sym (spells.is ∙ ap config_of (sym all))) (lawful_to bytes spells.faultless (length (lines bytes)) (omega arith))

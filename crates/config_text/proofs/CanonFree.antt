-- No line of a canonical spelling has a fault beside those before it.
use Rattle.std.proofs.Common.{◌≡◌, ℕ, zero, suc, ◌+◌, ◌≤◌, true, false, leb, List, [], ◌∷◌, ◌++◌, length, map, Some, None, refl, sym, ap, subst, arith, append_assoc}
use Rattle.std.specs.Prelude.{Ok}
use Rattle.std.specs.List.{list_all, flat_map}
use Rattle.std.proofs.lemmas.Bool.{and_parts, lt-leb}
use Rattle.std.proofs.lemmas.List.{length-append, append-nil, take_at, get_or_at, get_or_past}
use Rattle.music_base.specs.Names.{is_name}
use Rattle.config_text.specs.declared.config.Config.{Config}
use Rattle.config_text.specs.declared.link_text.LinkText.{LinkText}
use Rattle.config_text.specs.Contents.{Content, blank, connection}
use Rattle.config_text.specs.Pairs.{SettingList, SectionList, last_value, onto_last, has_own_keys}
use Rattle.config_text.specs.Text.{Line, config_of, fault_beside, fault_at}
use Rattle.config_text.specs.Inner.{with_content, with_setting}
use Rattle.config_text.specs.Lawful.{is_lawful_setting, is_lawful_section, are_settings}
use Rattle.config_text.specs.Canon.{is_lawful_config}
use Rattle.config_text.proofs.OneMore.{config-push}
use Rattle.config_text.proofs.Entries.{absent}
use Rattle.config_text.proofs.CanonContents.{setting_of, section_contents, contents, oks, behind_defaults, contents_split}
use Rattle.config_text.proofs.ConfigParts.{list_parts}

-- each content is free of faults beside the configuration of those before it
abbrev Frees : Config → List Content → Type 0
Frees config [] = Unit {0}
Frees config (c ∷ cs) = (fault_beside config (Ok c) ≡ None) × Frees (with_content config c) cs

free_at : (done : List Line) (cs : List Content) → Frees (config_of done) cs → (i : ℕ) → fault_at (done ++ oks cs) (length done + i) ≡ None
unfolding fault_at
free_at done [] free i =
    rw (get_or_past (done ++ []) (length done + i) (Ok blank) (omega (arith, length-append done []))) refl
free_at done (c ∷ cs) free zero =
    let n : length done + 0 ≡ length done = omega arith in
    rw (n, take_at done (Ok c ∷ oks cs) (length done) refl, get_or_at done (Ok c) (oks cs) (Ok blank) (length done) refl) free.0
free_at done (c ∷ cs) free (suc i) =
    let n : length done + suc i ≡ length (done ++ Ok c ∷ []) + i = omega (arith, length-append done (Ok c ∷ [])) in
    let l : done ++ Ok c ∷ oks cs ≡ (done ++ Ok c ∷ []) ++ oks cs = sym (append_assoc done (Ok c ∷ []) (oks cs)) in
    let next : Frees (config_of (done ++ Ok c ∷ [])) cs = subst (λ (g : Config). Frees g cs) (sym (config-push done (Ok c))) free.1 in
    rw (n, l) (free_at (done ++ Ok c ∷ []) cs next i)

made : SettingList → SectionList → List LinkText → Config
made d s l = record { defaults = d; sections = s; links = l }

last-push : {X : Type 0} (front : List (List ℕ × X)) (n : List ℕ) (x : X) → last_value (front ++ (n, x) ∷ []) ≡ Some x
last-push [] n x = refl
last-push (f ∷ []) n x = refl
last-push (f ∷ g ∷ front) n x = last-push (g ∷ front) n x

onto-push : (front : SectionList) (n : List ℕ) (have : SettingList) (p : List ℕ × List ℕ) → onto_last p (front ++ (n, have) ∷ []) ≡ front ++ (n, have ++ p ∷ []) ∷ []
onto-push [] n have p = refl
onto-push (f ∷ []) n have p = refl
onto-push (f ∷ g ∷ front) n have p = ap (λ (l : SectionList). f ∷ l) (onto-push (g ∷ front) n have p)

defaults_free : (have ps : SettingList) (rest : List Content) → has_own_keys (have ++ ps) ≡ true → Frees (made (have ++ ps) [] []) rest → Frees (made have [] []) (map setting_of ps ++ rest)
unfolding made
defaults_free have [] rest own free = subst (λ (d : SettingList). Frees (made d [] []) rest) (append-nil have) free
defaults_free have (p ∷ ps) rest own free =
    let e : have ++ p ∷ ps ≡ (have ++ p ∷ []) ++ ps = sym (append_assoc have (p ∷ []) ps) in (
      rw (absent have p ps own) refl,
      defaults_free (have ++ p ∷ []) ps rest (rw (← e) own) (subst (λ (d : SettingList). Frees (made d [] []) rest) e free),
    )

with_setting-push : (d : SettingList) (front : SectionList) (n : List ℕ) (have : SettingList) (p : List ℕ × List ℕ)
    → with_setting (made d (front ++ (n, have) ∷ []) []) p (front ++ (n, have) ∷ []) ≡ made d (front ++ (n, have ++ p ∷ []) ∷ []) []
unfolding made
with_setting-push d [] n have p = refl
with_setting-push d (f ∷ front) n have p = ap (λ (s : SectionList). made d s []) (onto-push (f ∷ front) n have p)

settings_free : (d : SettingList) (front : SectionList) (n : List ℕ) (have ps : SettingList) (rest : List Content) → has_own_keys (have ++ ps) ≡ true
    → Frees (made d (front ++ (n, have ++ ps) ∷ []) []) rest → Frees (made d (front ++ (n, have) ∷ []) []) (map setting_of ps ++ rest)
unfolding made
settings_free d front n have [] rest own free = subst (λ (h : SettingList). Frees (made d (front ++ (n, h) ∷ []) []) rest) (append-nil have) free
settings_free d front n have (p ∷ ps) rest own free =
    let e : have ++ p ∷ ps ≡ (have ++ p ∷ []) ++ ps = sym (append_assoc have (p ∷ []) ps) in
    let next = settings_free d front n (have ++ p ∷ []) ps rest (rw (← e) own) (subst (λ (h : SettingList). Frees (made d (front ++ (n, h) ∷ []) []) rest) e free) in (
      rw (last-push front n have, absent have p ps own) refl,
      subst (λ (g : Config). Frees g (map setting_of ps ++ rest)) (sym (with_setting-push d front n have p)) next,
    )

sections_free : (d : SettingList) (front ss : SectionList) (rest : List Content) → has_own_keys (front ++ ss) ≡ true → length (front ++ ss) ≤ 32 → list_all is_lawful_section ss ≡ true
    → Frees (made d (front ++ ss) []) rest → Frees (made d front []) (flat_map section_contents ss ++ rest)
unfolding made
sections_free d front [] rest own few lawful free = subst (λ (s : SectionList). Frees (made d s []) rest) (append-nil front) free
sections_free d front (s ∷ ss) rest own few lawful free =
    let e : front ++ s ∷ ss ≡ (front ++ s ∷ []) ++ ss = sym (append_assoc front (s ∷ []) ss) in
    let parts = and_parts (is_lawful_section s) (list_all is_lawful_section ss) lawful in
    let settings = and_parts (list_all is_lawful_setting s.1) (has_own_keys s.1) (and_parts (is_name s.0) (are_settings s.1) parts.0).1 in
    let room : leb 32 (length front) ≡ false = lt-leb 32 (length front) (omega (arith, few, length-append front (s ∷ ss))) in
    let next = sections_free d (front ++ s ∷ []) ss rest (rw (← e) own) (rw (← e) few) parts.1 (subst (λ (x : SectionList). Frees (made d x []) rest) e free) in (
      rw (absent front s ss own, room) refl,
      subst (λ (cs : List Content). Frees (made d (front ++ (s.0, []) ∷ []) []) cs) (sym (append_assoc (map setting_of s.1) (flat_map section_contents ss) rest))
          (settings_free d front s.0 [] s.1 (flat_map section_contents ss ++ rest) settings.1 next),
    )

links_free : (d : SettingList) (s : SectionList) (have ls : List LinkText) → length (have ++ ls) ≤ 64 → Frees (made d s have) (map connection ls)
unfolding made
links_free d s have [] few = tt
links_free d s have (l ∷ ls) few =
    let room : leb 64 (length have) ≡ false = lt-leb 64 (length have) (omega (arith, few, length-append have (l ∷ ls))) in
    let e : have ++ l ∷ ls ≡ (have ++ l ∷ []) ++ ls = sym (append_assoc have (l ∷ []) ls) in
    (rw room refl, links_free d s (have ++ l ∷ []) ls (rw (← e) few))

-- no fault stands at any place of these contents
pub contents_faultless : (config : Config) → is_lawful_config config ≡ true → (i : ℕ) → fault_at (oks (contents config)) i ≡ None
unfolding made
contents_faultless config lawful i =
    let p = list_parts config lawful in
    let free : Frees (config_of []) (contents config) =
    subst (λ (cs : List Content). Frees (config_of []) cs) (sym (contents_split config))
    (defaults_free [] config.defaults (behind_defaults config.sections config.links) p.setting_keys
    (sections_free config.defaults [] config.sections (map connection config.links) p.section_keys p.few_sections p.sections
    (links_free config.defaults config.sections [] config.links p.few_links))) in
    subst (λ (n : ℕ). fault_at (oks (contents config)) n ≡ None) (omega arith) (free_at [] (contents config) free i)

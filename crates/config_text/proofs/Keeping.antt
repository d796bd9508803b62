-- Settings, sections and connections stay lawful.
use Rattle.std.proofs.Common.{◌≡◌, ℕ, zero, suc, ◌-◌, ◌<◌, true, false, not, leb, ◌&&◌, ◌||◌, List, [], ◌∷◌, ◌++◌, length, Some, None, refl, ap, ◌∙◌, inl, inr, arith, Bool}
use Rattle.indexmap.specs.IndexMap.{insert_entry, set_value_at}
use Rattle.config_text.proofs.LastSection.{set_last}
use Rattle.std.specs.List.{list_any, list_all}
use Rattle.std.proofs.lemmas.Bool.{and_parts, and_from, or_parts, or_from, le-leb, not-true, not_from_false, cases_Bool}
use Rattle.std.proofs.lemmas.List.{length-append}
use Rattle.std.proofs.lemmas.List.Folds.{list_all-append, list_any-append}
use Rattle.music_base.specs.Names.{is_name}
use Rattle.config_text.specs.Parts.{is_value}
use Rattle.config_text.specs.Pairs.{same_name, value_of, last_value, onto_last, has_own_keys}
use Rattle.config_text.specs.Connections.{is_link}
use Rattle.config_text.specs.Lawful.{is_lawful_setting, is_lawful_section, are_settings, are_sections, are_links}
use Rattle.config_text.specs.declared.link_text.LinkText.{LinkText}

abbrev Setting : Type 0
Setting = List ℕ × List ℕ

not_found : {X : Type 0} (e : List ℕ × X) (es : List (List ℕ × X)) (n : List ℕ) → value_of (e ∷ es) n ≡ None → (same_name n e.0 ≡ false) × (value_of es n ≡ None)
not_found e es n none =
    elim (cases_Bool (same_name n e.0)) [
      | inl same ↦ let found : Some e.1 ≡ None = rw same at none in absurd cc
      | inr other ↦ (other, rw other at none)
    ]

own_push : {X : Type 0} (es : List (List ℕ × X)) (n : List ℕ) (x : X) → has_own_keys es ≡ true → value_of es n ≡ None → has_own_keys (es ++ (n, x) ∷ []) ≡ true
own_push [] n x own none = refl
own_push {X} (e ∷ es) n x own none =
    let parts = and_parts (not (list_any (λ (other : List ℕ × X). same_name other.0 e.0) es)) (has_own_keys es) own in
    let miss = not_found e es n none in
    let fresh : list_any (λ (other : List ℕ × X). same_name other.0 e.0) (es ++ (n, x) ∷ []) ≡ false =
    list_any-append (λ (other : List ℕ × X). same_name other.0 e.0) es ((n, x) ∷ []) ∙ or_from _ _ (not-true _ parts.0) (or_from (same_name n e.0) false miss.0 refl) in
    and_from _ _ (not_from_false _ fresh) (own_push es n x parts.1 miss.1)

-- ---- a setting inserted: its name keeps its place where it is there, and goes last where it is not

pub insert_new : {X : Type 0} (es : List (List ℕ × X)) (n : List ℕ) (x : X) → value_of es n ≡ None → insert_entry same_name es n x ≡ es ++ (n, x) ∷ []
insert_new [] n x none = refl
insert_new {X} (e ∷ es) n x none =
    let miss = not_found e es n none in
    rw miss.0 (ap (λ (l : List (List ℕ × X)). e ∷ l) (insert_new es n x miss.1))

all_insert : (ps : List Setting) (n v : List ℕ) → list_all is_lawful_setting ps ≡ true → is_name n ≡ true → is_value v ≡ true → list_all is_lawful_setting (insert_entry same_name ps n v) ≡ true
all_insert [] n v all name value = and_from _ _ (and_from _ _ name value) refl
all_insert (p ∷ ps) n v all name value =
    let parts = and_parts (is_lawful_setting p) (list_all is_lawful_setting ps) all in
    elim (cases_Bool (same_name n p.0)) [
      | inl same ↦ rw same (and_from _ _ (and_from _ _ (and_parts (is_name p.0) (is_value p.1) parts.0).0 value) parts.1)
      | inr other ↦ rw other (and_from _ _ parts.0 (all_insert ps n v parts.1 name value))
    ]

any_insert : (k : List ℕ) (ps : List Setting) (n v : List ℕ) → list_any (λ (o : Setting). same_name o.0 k) ps ≡ false → same_name n k ≡ false → list_any (λ (o : Setting). same_name o.0 k) (insert_entry same_name ps n v) ≡ false
any_insert k [] n v none other = or_from _ _ other refl
any_insert k (p ∷ ps) n v none other =
    let parts = or_parts (same_name p.0 k) (list_any (λ (o : Setting). same_name o.0 k) ps) none in
    elim (cases_Bool (same_name n p.0)) [
      | inl same ↦ rw same none
      | inr differs ↦ rw differs (or_from _ _ parts.0 (any_insert k ps n v parts.1 other))
    ]

own_insert : (ps : List Setting) (n v : List ℕ) → has_own_keys ps ≡ true → has_own_keys (insert_entry same_name ps n v) ≡ true
own_insert [] n v own = refl
own_insert (p ∷ ps) n v own =
    let parts = and_parts (not (list_any (λ (other : Setting). same_name other.0 p.0) ps)) (has_own_keys ps) own in
    elim (cases_Bool (same_name n p.0)) [
      | inl same ↦ rw same own
      | inr differs ↦ rw differs (and_from _ _ (not_from_false _ (any_insert p.0 ps n v (not-true _ parts.0) differs)) (own_insert ps n v parts.1))
    ]

pub settings_insert : (ps : List Setting) (n v : List ℕ) → are_settings ps ≡ true → is_name n ≡ true → is_value v ≡ true → are_settings (insert_entry same_name ps n v) ≡ true
settings_insert ps n v lawful name value =
    let parts = and_parts (list_all is_lawful_setting ps) (has_own_keys ps) lawful in
    and_from _ _ (all_insert ps n v parts.0 name value) (own_insert ps n v parts.1)

pub settings_push : (ps : List Setting) (n v : List ℕ) → are_settings ps ≡ true → is_name n ≡ true → is_value v ≡ true → value_of ps n ≡ None → are_settings (ps ++ (n, v) ∷ []) ≡ true
settings_push ps n v lawful name value none = rw (← insert_new ps n v none) (settings_insert ps n v lawful name value)

pub sections_push : (ss : List (List ℕ × List Setting)) (n : List ℕ) (st : List Setting) → are_sections ss ≡ true → is_name n ≡ true → are_settings st ≡ true → value_of ss n ≡ None → length ss < 32 → are_sections (ss ++ (n, st) ∷ []) ≡ true
sections_push ss n st lawful name settings none room =
    let a = and_parts (list_all is_lawful_section ss && has_own_keys ss) (leb (length ss) 32) lawful in
    let b = and_parts (list_all is_lawful_section ss) (has_own_keys ss) a.0 in
    and_from _ _ (and_from _ _ (list_all-append is_lawful_section ss ((n, st) ∷ []) ∙ and_from _ _ b.0 (and_from _ _ (and_from _ _ name settings) refl)) (own_push ss n st b.1 none))
    (le-leb (length (ss ++ (n, st) ∷ [])) 32 (omega (arith, length-append ss ((n, st) ∷ []))))

pub links_push : (links : List LinkText) (link : LinkText) → are_links links ≡ true → is_link link ≡ true → length links < 64 → are_links (links ++ link ∷ []) ≡ true
links_push links link lawful is room =
    let a = and_parts (list_all is_link links) (leb (length links) 64) lawful in
    and_from _ _ (list_all-append is_link links (link ∷ []) ∙ and_from _ _ a.0 (and_from _ _ is refl))
    (le-leb (length (links ++ link ∷ [])) 64 (omega (arith, length-append links (link ∷ []))))

-- a value in the place of another leaves the keys as they are
any_set : (k : List ℕ) (ss : List (List ℕ × List Setting)) (i : ℕ) (w : List Setting) → list_any (λ (o : List ℕ × List Setting). same_name o.0 k) (set_value_at ss i w) ≡ list_any (λ (o : List ℕ × List Setting). same_name o.0 k) ss
any_set k [] i w = refl
any_set k (s ∷ ss) zero w = refl
any_set k (s ∷ ss) (suc i) w = ap (λ b. same_name s.0 k || b) (any_set k ss i w)

own_set : (ss : List (List ℕ × List Setting)) (i : ℕ) (w : List Setting) → has_own_keys (set_value_at ss i w) ≡ has_own_keys ss
own_set [] i w = refl
own_set (s ∷ ss) zero w = refl
own_set (s ∷ ss) (suc i) w = rw (any_set s.0 ss i w, own_set ss i w) refl

length_set : (ss : List (List ℕ × List Setting)) (i : ℕ) (w : List Setting) → length (set_value_at ss i w) ≡ length ss
length_set [] i w = refl
length_set (s ∷ ss) zero w = refl
length_set (s ∷ ss) (suc i) w = ap suc (length_set ss i w)

all_set : (ss : List (List ℕ × List Setting)) (i : ℕ) (w : List Setting) → are_settings w ≡ true → list_all is_lawful_section ss ≡ true → list_all is_lawful_section (set_value_at ss i w) ≡ true
all_set [] i w settings all = refl
all_set (s ∷ ss) zero w settings all =
    let parts = and_parts (is_lawful_section s) (list_all is_lawful_section ss) all in
    and_from _ _ (and_from _ _ (and_parts (is_name s.0) (are_settings s.1) parts.0).0 settings) parts.1
all_set (s ∷ ss) (suc i) w settings all =
    let parts = and_parts (is_lawful_section s) (list_all is_lawful_section ss) all in
    and_from _ _ parts.0 (all_set ss i w settings parts.1)

-- lawful settings in the place of others
pub sections_set : (ss : List (List ℕ × List Setting)) (i : ℕ) (w : List Setting) → are_settings w ≡ true → are_sections ss ≡ true → are_sections (set_value_at ss i w) ≡ true
sections_set ss i w settings lawful =
    let a = and_parts (list_all is_lawful_section ss && has_own_keys ss) (leb (length ss) 32) lawful in
    let b = and_parts (list_all is_lawful_section ss) (has_own_keys ss) a.0 in
    and_from _ _ (and_from _ _ (all_set ss i w settings b.0) (own_set ss i w ∙ b.1)) (rw (length_set ss i w) a.1)

pub sections_onto : (p : Setting) (ss : List (List ℕ × List Setting)) (old : List Setting) → last_value ss ≡ Some old → are_settings (old ++ p ∷ []) ≡ true → are_sections ss ≡ true → are_sections (onto_last p ss) ≡ true
sections_onto p ss old is settings lawful = rw (← set_last ss old (old ++ p ∷ []) p is refl) (sections_set ss (length ss - 1) (old ++ p ∷ []) settings lawful)

pub set_same : (ss : List (List ℕ × List Setting)) (old : List Setting) → last_value ss ≡ Some old → set_value_at ss (length ss - 1) old ≡ ss
set_same [] old is = refl
set_same (s ∷ []) old is = let same : s.1 ≡ old = cc in rw (← same) refl
set_same (s ∷ t ∷ ss) old is =
    let i : suc (suc (length ss)) - 1 ≡ suc (suc (length ss) - 1) = omega arith in
    rw i (ap (λ (l : List (List ℕ × List Setting)). s ∷ l) (set_same (t ∷ ss) old is))

pub turned : (x y : Bool) → y ≡ not x → x ≡ not y
turned true y e = rw e refl
turned false y e = rw e refl

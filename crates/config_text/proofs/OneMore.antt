-- What one more line does to the configuration that the lines spell.
use Rattle.std.proofs.Common.{◌≡◌, ℕ, List, [], ◌∷◌, ◌++◌, Bool, true, false, cond, refl, ap, ◌∙◌}
use Rattle.std.specs.Prelude.{Ok, Err}
use Rattle.std.proofs.lemmas.List.{append-nil}
use Rattle.config_text.specs.Contents.{blank, section, setting, connection}
use Rattle.config_text.specs.Pairs.{onto_last}
use Rattle.config_text.specs.Text.{Line, settings_before_section, sections_of, links_of, config_of}
use Rattle.config_text.specs.Inner.{with_line, with_setting}

abbrev pub is_nil : {X : Type 0} → List X → Bool
is_nil [] = true
is_nil (x ∷ xs) = false

links-append : (a b : List Line) → links_of (a ++ b) ≡ links_of a ++ links_of b
links-append [] b = refl
links-append (Ok (connection link) ∷ a) b = ap (λ links. link ∷ links) (links-append a b)
links-append (Ok blank ∷ a) b = links-append a b
links-append (Ok (section name) ∷ a) b = links-append a b
links-append (Ok (setting name value) ∷ a) b = links-append a b
links-append (Err kind ∷ a) b = links-append a b

-- lines that begin with no setting leave the settings before them alone
before-quiet : (a b : List Line) → settings_before_section b ≡ [] → settings_before_section (a ++ b) ≡ settings_before_section a
before-quiet [] b quiet = quiet
before-quiet (Ok (connection link) ∷ a) b quiet = before-quiet a b quiet
before-quiet (Ok blank ∷ a) b quiet = before-quiet a b quiet
before-quiet (Ok (section name) ∷ a) b quiet = refl
before-quiet (Ok (setting name value) ∷ a) b quiet = ap (λ settings. (name, value) ∷ settings) (before-quiet a b quiet)
before-quiet (Err kind ∷ a) b quiet = before-quiet a b quiet

sections-quiet : (a b : List Line) → settings_before_section b ≡ [] → sections_of (a ++ b) ≡ sections_of a ++ sections_of b
sections-quiet [] b quiet = refl
sections-quiet (Ok (connection link) ∷ a) b quiet = sections-quiet a b quiet
sections-quiet (Ok blank ∷ a) b quiet = sections-quiet a b quiet
sections-quiet (Ok (section name) ∷ a) b quiet = rw (before-quiet a b quiet) (ap (λ sections. (name, settings_before_section a) ∷ sections) (sections-quiet a b quiet))
sections-quiet (Ok (setting name value) ∷ a) b quiet = sections-quiet a b quiet
sections-quiet (Err kind ∷ a) b quiet = sections-quiet a b quiet

-- a setting goes to the defaults where there is no section
before-setting : (a : List Line) (k v : List ℕ) → settings_before_section (a ++ Ok (setting k v) ∷ []) ≡ cond (is_nil (sections_of a)) (settings_before_section a ++ (k, v) ∷ []) (settings_before_section a)
before-setting [] k v = refl
before-setting (Ok (connection link) ∷ a) k v = before-setting a k v
before-setting (Ok blank ∷ a) k v = before-setting a k v
before-setting (Ok (section name) ∷ a) k v = refl
before-setting (Ok (setting name value) ∷ a) k v = ap (λ settings. (name, value) ∷ settings) (before-setting a k v) ∙ inside (is_nil (sections_of a))
  where
    inside : (t : Bool) → (name, value) ∷ cond t (settings_before_section a ++ (k, v) ∷ []) (settings_before_section a) ≡ cond t ((name, value) ∷ settings_before_section a ++ (k, v) ∷ []) ((name, value) ∷ settings_before_section a)
    inside true = refl
    inside false = refl
before-setting (Err kind ∷ a) k v = before-setting a k v

sections-setting : (a : List Line) (k v : List ℕ) → sections_of (a ++ Ok (setting k v) ∷ []) ≡ onto_last (k, v) (sections_of a)
sections-setting [] k v = refl
sections-setting (Ok (connection link) ∷ a) k v = sections-setting a k v
sections-setting (Ok blank ∷ a) k v = sections-setting a k v
sections-setting (Ok (section name) ∷ a) k v = rw (before-setting a k v, sections-setting a k v) (go (sections_of a))
  where
    go : (s : List (List ℕ × List (List ℕ × List ℕ))) → (name, cond (is_nil s) (settings_before_section a ++ (k, v) ∷ []) (settings_before_section a)) ∷ onto_last (k, v) s ≡ onto_last (k, v) ((name, settings_before_section a) ∷ s)
    go [] = refl
    go (x ∷ xs) = refl
sections-setting (Ok (setting name value) ∷ a) k v = sections-setting a k v
sections-setting (Err kind ∷ a) k v = sections-setting a k v

-- the configuration of one more line
pub config-push : (a : List Line) (line : Line) → config_of (a ++ line ∷ []) ≡ with_line (config_of a) line
config-push a (Err kind) = rw (before-quiet a (Err kind ∷ []) refl, sections-quiet a (Err kind ∷ []) refl, links-append a (Err kind ∷ []), append-nil (sections_of a), append-nil (links_of a)) refl
config-push a (Ok blank) = rw (before-quiet a (Ok blank ∷ []) refl, sections-quiet a (Ok blank ∷ []) refl, links-append a (Ok blank ∷ []), append-nil (sections_of a), append-nil (links_of a)) refl
config-push a (Ok (section name)) = rw (before-quiet a (Ok (section name) ∷ []) refl, sections-quiet a (Ok (section name) ∷ []) refl, links-append a (Ok (section name) ∷ []), append-nil (links_of a)) refl
config-push a (Ok (connection link)) = rw (before-quiet a (Ok (connection link) ∷ []) refl, sections-quiet a (Ok (connection link) ∷ []) refl, links-append a (Ok (connection link) ∷ []), append-nil (sections_of a)) refl
config-push a (Ok (setting k v)) = rw (before-setting a k v, sections-setting a k v, links-append a (Ok (setting k v) ∷ []), append-nil (links_of a)) (go (sections_of a))
  where
    go : (s : List (List ℕ × List (List ℕ × List ℕ)))
        → record { defaults = cond (is_nil s) (settings_before_section a ++ (k, v) ∷ []) (settings_before_section a); sections = onto_last (k, v) s; links = links_of a }
        ≡ with_setting (record { defaults = settings_before_section a; sections = s; links = links_of a }) (k, v) s
    go [] = refl
    go (x ∷ xs) = refl

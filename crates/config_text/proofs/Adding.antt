-- Adding a setting to the defaults or to the last section.
use Rattle.std.proofs.Common.{◌≡◌, ℕ, ◌-◌, List, [], ◌∷◌, length, Option, Some, None, Bool, true, false, not, cond, refl, sym, ap, ◌∙◌, arith}
use Rattle.std.specs.Prelude.{is_some, Result, Ok, Err, IfOk, OnOk, ◌==◌}
use Rattle.std.proofs.lemmas.Bool.{eqb-true, true≢false}
use Rattle.std.specs.Option.{unwrap_or, IfSome}
use Rattle.config_text.specs.declared.config.Config.{Config}
use Rattle.indexmap.specs.IndexMap.{insert_entry, set_value_at}
use Rattle.config_text.proofs.LastSection.{set_last}
use Rattle.config_text.proofs.Keeping.{insert_new}
use Rattle.config_text.specs.Pairs.{SettingList, SectionList, same_name, value_of, last_value, onto_last}
use Rattle.config_text.specs.Text.{open_settings, setting_fault}
use Rattle.config_text.specs.Inner.{with_setting}

pub nil_from : {X : Type 0} (xs : List X) → true ≡ (length xs == 0) → xs ≡ []
nil_from [] e = refl
nil_from (x ∷ xs) e = absurd (omega (arith, eqb-true _ 0 (sym e)))

pub not_nil : {X : Type 0} (xs : List X) → false ≡ (length xs == 0) → xs ≡ [] → ⊥
not_nil [] e none = true≢false (sym e)
not_nil (x ∷ xs) e none = cc

none_from : {X K : Type 0} (o : Option X) (kind : K) → None ≡ cond (is_some o) (Some kind) None → o ≡ None
none_from None kind e = refl
none_from (Some x) kind e = absurd cc

pub no_repeat : (config : Config) (name : List ℕ) → None ≡ setting_fault config name → value_of (open_settings config) name ≡ None
no_repeat config name e = none_from (value_of (open_settings config) name) _ e

-- the open settings are the defaults where there is no section
pub open_defaults : (config : Config) (name : List ℕ) → config.sections ≡ [] → value_of (open_settings config) name ≡ None → value_of config.defaults name ≡ None
open_defaults config name none h = rw none at h

pub open_last : (config : Config) (name : List ℕ) → value_of (open_settings config) name ≡ None → IfSome (last_value config.sections) (λ settings. value_of settings name ≡ None)
open_last config name h = go (last_value config.sections) h
  where
    go : (o : Option (List (List ℕ × List ℕ))) → value_of (unwrap_or o config.defaults) name ≡ None → IfSome o (λ settings. value_of settings name ≡ None)
    go None h = tt
    go (Some s) h = h

-- ---- a setting inserted where its name is new

fresh_none : {X : Type 0} (o : Option X) (fresh : Bool) → fresh ≡ not (is_some o) → fresh ≡ true → o ≡ None
fresh_none None fresh e t = refl
fresh_none (Some x) fresh e t = absurd (true≢false (sym t ∙ e))

has_last : {X : Type 0} (ss : List (List ℕ × X)) → (ss ≡ [] → ⊥) → (x : X) × (last_value ss ≡ Some x)
has_last [] some = absurd (some refl)
has_last (s ∷ []) some = (s.1, refl)
has_last (s ∷ t ∷ ss) some = has_last (t ∷ ss) (λ e. cc)

pub both_ok : {T E : Type 0} (r : Result T E) (P : T → Type 0) (Q : Type 0) (R : T → Type 0) → ((x : T) → P x → Q → R x) → IfOk r P → OnOk r Q → IfOk r R
both_ok (Ok x) P Q R f p q = f x p q
both_ok (Err e) P Q R f p q = tt

pub inserted_last : (ss new : SectionList) (name value : List ℕ) → (ss ≡ [] → ⊥) → IfSome (last_value ss) (λ settings. new ≡ set_value_at ss (length ss - 1) (insert_entry same_name settings name value))
    → IfSome (last_value ss) (λ settings. value_of settings name ≡ None) → new ≡ onto_last (name, value) ss
inserted_last ss new name value some e none =
    let last = has_last ss some in
    (rw last.1 at e) ∙ set_last ss last.0 (insert_entry same_name last.0 name value) (name, value) last.1 (insert_new last.0 name value (rw last.1 at none))

pub fresh_last : {E : Type 0} (r : Result Bool E) (config : Config) (name : List ℕ) → (config.sections ≡ [] → ⊥)
    → IfOk r (λ fresh. IfSome (last_value config.sections) (λ settings. fresh ≡ not (is_some (value_of settings name)))) → IfOk r (λ fresh. fresh ≡ not (is_some (value_of (open_settings config) name)))
fresh_last r config name some h = let last = has_last config.sections some in rw last.1 (rw last.1 at h)

pub added_default : (config : Config) (name value : List ℕ) (defaults : SettingList) (fresh : Bool) → config.sections ≡ [] → fresh ≡ not (is_some (value_of config.defaults name)) → defaults ≡ insert_entry same_name config.defaults name value
    → fresh ≡ true → record config { defaults = defaults } ≡ with_setting config (name, value) config.sections
added_default config name value defaults fresh none is e t =
    rw (none, e, insert_new config.defaults name value (fresh_none (value_of config.defaults name) fresh is t)) refl

pub added_last : (config : Config) (name value : List ℕ) (sections : SectionList) (fresh : Bool) → (config.sections ≡ [] → ⊥)
    → IfSome (last_value config.sections) (λ settings. fresh ≡ not (is_some (value_of settings name)))
    → IfSome (last_value config.sections) (λ settings. sections ≡ set_value_at config.sections (length config.sections - 1) (insert_entry same_name settings name value))
    → fresh ≡ true → record config { sections = sections } ≡ with_setting config (name, value) config.sections
added_last config name value sections fresh some is e t =
    ap (λ (s : SectionList). record config { sections = s }) (inserted_last config.sections sections name value some e (absent (last_value config.sections) is)) ∙ go config.sections some
  where
    absent : (o : Option SettingList) → IfSome o (λ settings. fresh ≡ not (is_some (value_of settings name))) → IfSome o (λ settings. value_of settings name ≡ None)
    absent None h = tt
    absent (Some settings) h = fresh_none (value_of settings name) fresh h t

    go : (s : SectionList) → (s ≡ [] → ⊥) → record config { sections = onto_last (name, value) s } ≡ with_setting config (name, value) s
    go [] some = absurd (some refl)
    go (x ∷ xs) some = refl

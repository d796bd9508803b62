-- Where connections are written from the sender alone and state no option, no connection that is spelled states one.
use Rattle.std.proofs.Common.{◌≡◌, ℕ, Bool, true, false, ◌||◌, List, [], ◌∷◌, map, refl, ap, ◌∙◌, Option, Some, None}
use Rattle.std.specs.Prelude.{Result, Ok, Err, if◌then◌else◌}
use Rattle.std.specs.List.{list_any, list_all, before_first, after_first}
use Rattle.std.proofs.lemmas.Bool.{and_from}
use Rattle.config_text.specs.declared.config.Config.{Config}
use Rattle.config_text.specs.declared.link_text.LinkText.{LinkText}
use Rattle.config_text.specs.declared.text_kind.TextKind.{TextKind}
use Rattle.config_text.specs.Bytes.{close_bracket, is_quote, is_equals, is_open_bracket, is_text_byte}
use Rattle.config_text.specs.Lines.{raw_lines}
use Rattle.config_text.specs.Options.{no_options}
use Rattle.config_text.specs.Parts.{◌>>=◌, without_cr, before_comment, trimmed, ends_in, between_ends, name_in}
use Rattle.config_text.specs.Connections.{end_in, width_in, link_between}
use Rattle.config_text.specs.Contents.{Content, blank, section, setting, connection, value_in, section_in, setting_in}
use Rattle.config_text.specs.BareTexts.{split_at_arrow, without_last, connection_with_width, connection_without_width, connection_between, connection_at, connection_in, is_setting, content_in, content_of, SpellsBare, states_no_option}
use Rattle.config_text.specs.Text.{Line, links_of}

-- what is read passes the test
abbrev Passes : {X : Type 0} → (X → Bool) → Result X TextKind → Type 0
Passes test (Ok x) = test x ≡ true
Passes test (Err kind) = Unit {0}

passes-then : {A B : Type 0} (test : B → Bool) (r : Result A TextKind) (f : A → Result B TextKind) → ((x : A) → Passes test (f x)) → Passes test (r >>= f)
passes-then test (Ok x) f each = each x
passes-then test (Err kind) f each = tt

passes-if : {A : Type 0} (test : A → Bool) (t : Bool) (a b : Result A TextKind) → Passes test a → Passes test b → Passes test (if t then a else b)
passes-if test true a b x y = x
passes-if test false a b x y = y

passes-wide : (left right : List ℕ) → Passes states_no_option (connection_with_width left right)
passes-wide left right =
    passes-if states_no_option (ends_in close_bracket right) _ _
    (passes-then states_no_option (end_in left) _
    (λ from. passes-then states_no_option (end_in (before_first is_open_bracket right)) _
    (λ to. passes-then states_no_option (width_in (without_last (after_first is_open_bracket right))) (λ width. Ok (link_between from to (Some width) no_options)) (λ width. refl))))
    tt

passes-narrow : (left right : List ℕ) → Passes states_no_option (connection_without_width left right)
passes-narrow left right =
    passes-then states_no_option (end_in left) _
    (λ from. passes-then states_no_option (end_in right) (λ to. Ok (link_between from to None no_options)) (λ to. refl))

passes-between : (left behind : List ℕ) → Passes states_no_option (connection_between left behind)
passes-between left behind =
    passes-if states_no_option (list_any is_quote left || list_any is_quote behind) _ _ tt
    (passes-if states_no_option (list_any is_open_bracket (trimmed behind)) _ _ (passes-wide left (trimmed behind)) (passes-narrow left (trimmed behind)))

passes-at : (parts : Option (List ℕ × List ℕ)) → Passes states_no_option (connection_at parts)
passes-at None = tt
passes-at (Some parts) = passes-between parts.0 parts.1

abbrev has_no_option : Content → Bool
has_no_option (connection link) = states_no_option link
has_no_option _ = true

passes-section : (content : List ℕ) → Passes has_no_option (section_in content)
passes-section content =
    passes-if has_no_option (ends_in close_bracket content) _ _ (passes-then has_no_option (name_in (between_ends content)) (λ name. Ok (section name)) (λ name. refl)) tt

passes-setting : (content : List ℕ) → Passes has_no_option (setting_in content)
passes-setting content =
    passes-then has_no_option (name_in (before_first is_equals content)) _
    (λ name. passes-then has_no_option (value_in (after_first is_equals content)) (λ value. Ok (setting name value)) (λ value. refl))

passes-linked : (r : Result LinkText TextKind) → Passes states_no_option r → Passes has_no_option (r >>= λ link. Ok (connection link))
passes-linked (Ok link) passes = passes
passes-linked (Err kind) passes = tt

passes-in : (content : List ℕ) → Passes has_no_option (content_in content)
passes-in [] = refl
passes-in (b ∷ bytes) =
    passes-if has_no_option (is_open_bracket b) _ _ (passes-section (b ∷ bytes))
    (passes-if has_no_option (is_setting (b ∷ bytes)) _ _ (passes-setting (b ∷ bytes)) (passes-linked (connection_in (b ∷ bytes)) (passes-at (split_at_arrow (b ∷ bytes)))))

passes-content : (line : List ℕ) → Passes has_no_option (content_of line)
passes-content line =
    let visible = before_comment (without_cr line) in
    passes-if has_no_option (list_all is_text_byte visible) _ _ (passes-in (trimmed visible)) tt

none_states : (raws : List (List ℕ)) → list_all states_no_option (links_of (map content_of raws)) ≡ true
none_states [] = refl
none_states (raw ∷ raws) = go (content_of raw) (passes-content raw) (none_states raws)
  where
    go : (line : Line) → Passes has_no_option line → list_all states_no_option (links_of (map content_of raws)) ≡ true → list_all states_no_option (links_of (line ∷ map content_of raws)) ≡ true
    go (Ok blank) passes others = others
    go (Ok (section name)) passes others = others
    go (Ok (setting name value)) passes others = others
    go (Ok (connection link)) passes others = and_from _ _ passes others
    go (Err kind) passes others = others

pub no_option : (config : Config) (bytes : List ℕ) → SpellsBare config bytes → list_all states_no_option config.links ≡ true
no_option config bytes spells = ap (λ (c : Config). list_all states_no_option c.links) spells.is ∙ none_states (raw_lines bytes)

-- What is spelled where connections are written from the sender alone and state no option is spelled by the text.
use Rattle.std.proofs.Common.{◌≡◌, ℕ, suc, Bool, true, false, not, cond, List, [], ◌∷◌, map, take, refl, sym, ap, ◌∙◌, Option, None}
use Rattle.std.specs.Prelude.{Ok, Err, is_some, slice_index_or}
use Rattle.std.specs.List.{list_any, list_all, before_first}
use Rattle.std.proofs.lemmas.Bool.{and_parts, and_from}
use Rattle.config_text.specs.declared.config.Config.{Config}
use Rattle.config_text.specs.declared.link_text.LinkText.{LinkText}
use Rattle.config_text.specs.Bytes.{is_equals, is_open_bracket, is_text_byte}
use Rattle.config_text.specs.Lines.{raw_lines}
use Rattle.config_text.specs.Parts.{◌>>=◌, without_cr, before_comment, trimmed, name_in}
use Rattle.config_text.specs.Connections.{AtArrow}
use Rattle.config_text.specs.Contents.{Content, blank, connection, section_in, setting_in, is_setting, content_in, content_of}
use Rattle.config_text.specs.BareTexts as bare
use Rattle.config_text.specs.BareTexts.{SpellsBare, bare_lines}
use Rattle.config_text.specs.Text.{Line, lines, config_of, fault_beside, fault_at, Spells}
use Rattle.config_text.proofs.Dashes.{is_dash, no_arrow}
use Rattle.config_text.proofs.SettingLine.{front_bytes, none_in_front}
use Rattle.config_text.proofs.BareArrows.{not_setting}
use Rattle.config_text.proofs.BareConnections.{then_ok, step_ok, same_ok, connection_same}

still_setting : (content : List ℕ) (c : Content) → list_any is_equals content ≡ true → setting_in content ≡ Ok c → is_setting content ≡ true
still_setting content c any e =
    let front = before_first is_equals content in
    let name = step_ok (name_in front) _ c e in
    let arrowless = no_arrow front (none_in_front is_dash refl refl refl front (front_bytes front name.0 name.1)) in
    and_from _ _ any (ap (λ (o : Option AtArrow). not (is_some o)) arrowless)

content_same : (content : List ℕ) (c : Content) → bare.content_in content ≡ Ok c → content_in content ≡ Ok c
content_same [] c e = e
content_same (b ∷ bytes) c e = go (is_open_bracket b) (bare.is_setting (b ∷ bytes)) refl refl e
  where
    linked : (link : LinkText) → is_open_bracket b ≡ false → bare.is_setting (b ∷ bytes) ≡ false → bare.connection_in (b ∷ bytes) ≡ Ok link → connection link ≡ c → content_in (b ∷ bytes) ≡ Ok c
    linked link plain other is same = rw (plain, not_setting (b ∷ bytes) other, connection_same (b ∷ bytes) link is) (ap (λ (x : Content). Ok x) same)

    go : (s t : Bool) → is_open_bracket b ≡ s → bare.is_setting (b ∷ bytes) ≡ t
        → cond s (section_in (b ∷ bytes)) (cond t (setting_in (b ∷ bytes)) (bare.connection_in (b ∷ bytes) >>= λ link. Ok (connection link))) ≡ Ok c
        → content_in (b ∷ bytes) ≡ Ok c
    go true t opens is e = rw opens e
    go false true plain is e =
        let any = (and_parts (list_any is_equals (b ∷ bytes)) (not (is_some (bare.split_at_arrow (before_first is_equals (b ∷ bytes))))) is).0 in
        rw (plain, still_setting (b ∷ bytes) c any e) e
    go false false plain is e =
        let link = step_ok (bare.connection_in (b ∷ bytes)) _ c e in
        linked link.0 plain is link.1 (same_ok (connection link.0) c link.2)

line_same : (line : List ℕ) (c : Content) → bare.content_of line ≡ Ok c → content_of line ≡ Ok c
line_same line c e =
    let visible = before_comment (without_cr line) in
    let text = then_ok (list_all is_text_byte visible) _ _ c e in
    rw text.0 (content_same (trimmed visible) c text.1)

-- ---- the whole text

abbrev is_read : Line → Bool
is_read (Ok c) = true
is_read (Err kind) = false

unfaulty : (config : Config) (line : Line) → fault_beside config line ≡ None → is_read line ≡ true
unfaulty config (Ok c) e = refl
unfaulty config (Err kind) e = absurd cc

each_read : (all : List Line) (i : ℕ) → fault_at all i ≡ None → is_read (slice_index_or all i (Ok blank)) ≡ true
unfolding fault_at
each_read all i e = unfaulty (config_of (take i all)) (slice_index_or all i (Ok blank)) e

one_same : (raw : List ℕ) → is_read (bare.content_of raw) ≡ true → bare.content_of raw ≡ content_of raw
one_same raw is = go (bare.content_of raw) refl is
  where
    go : (line : Line) → bare.content_of raw ≡ line → is_read line ≡ true → bare.content_of raw ≡ content_of raw
    go (Ok c) e is = e ∙ sym (line_same raw c e)
    go (Err kind) e is = absurd cc

all_same : (raws : List (List ℕ)) → ((i : ℕ) → is_read (slice_index_or (map bare.content_of raws) i (Ok blank)) ≡ true) → map bare.content_of raws ≡ map content_of raws
all_same [] are = refl
all_same (raw ∷ raws) are = rw (one_same raw (are 0)) (ap (λ (ls : List Line). content_of raw ∷ ls) (all_same raws (λ i. are (suc i))))

pub spelled_same : (config : Config) (bytes : List ℕ) → SpellsBare config bytes → Spells config bytes
spelled_same config bytes spells =
    let e : bare_lines bytes ≡ lines bytes = all_same (raw_lines bytes) (λ i. each_read (bare_lines bytes) i (spells.faultless i)) in
    record {
      short = spells.short;
      faultless = λ i. ap (λ (ls : List Line). fault_at ls i) (sym e) ∙ spells.faultless i;
      is = spells.is ∙ ap config_of e;
    }

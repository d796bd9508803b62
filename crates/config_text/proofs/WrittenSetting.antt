-- A section line and a setting line that are written are read back.
use Rattle.std.proofs.Common.{◌≡◌, ℕ, ◌-◌, Bool, true, false, not, cond, leb, ltb, ◌&&◌, ◌||◌, List, [], ◌∷◌, ◌++◌, length, get_or, None, refl, sym, ap, ◌∙◌, inl, inr, arith}
use Rattle.std.specs.Prelude.{Ok, is_some}
use Rattle.std.specs.List.{list_any, list_all, before_first, after_first}
use Rattle.std.proofs.lemmas.Bool.{and_parts, and_from, or_parts, le-leb, lt-ltb, cases_Bool, not-true, true≢false}
use Rattle.std.proofs.lemmas.List.{length-append, take_at, append-nil}
use Rattle.music_base.specs.Names.{is_name, is_in_names}
use Rattle.music_base.specs.Blanks.{is_blank}
use Rattle.config_text.specs.Bytes.{quote, equals, open_bracket, close_bracket, is_text_byte, is_quote, is_comment_sign, is_equals, is_open_bracket}
use Rattle.config_text.specs.Parts.{before_comment_after, trimmed, begins_with_blank, ends_with_blank, ends_in, between_ends, name_in, is_value}
use Rattle.config_text.specs.Connections.{split_at_arrow}
use Rattle.config_text.specs.Contents.{section, setting, is_quoted, value_in, is_setting, setting_in, content_in, content_of}
use Rattle.config_text.specs.Canon.{needs_quotes, raw_value, setting_line, header_line}
use Rattle.config_text.proofs.Firsts.{all-append, any-middle, and_false}
use Rattle.music_base.proofs.FirstPlaces.{before_first-at, after_first-at}
use Rattle.config_text.proofs.NameBytes.{name_byte_misses, none_in_name, all_text, name_parts}
use Rattle.config_text.proofs.Ends.{second_fails}
use Rattle.config_text.proofs.Alone.{StandsAlone, content_alone, comment-passes, comment-quoted, trimmed-same, ends-append, ends_otherwise, ends_in_last, name_begins, name_alone}
use Rattle.config_text.proofs.Dashes.{is_dash, no_arrow}

-- ---- a section line

middle : (xs : List ℕ) (a b : ℕ) → between_ends (a ∷ xs ++ b ∷ []) ≡ xs
middle xs a b =
    let n : length (a ∷ xs ++ b ∷ []) - 2 ≡ length xs = omega (arith, length-append xs (b ∷ [])) in
    rw n (take_at xs (b ∷ []) (length xs) refl)

pub header_alone : (name : List ℕ) → is_name name ≡ true → StandsAlone (header_line name)
header_alone name is =
    let parts = name_parts name is in
    record {
      text = and_from (is_text_byte open_bracket) _ refl (all-append is_text_byte name (close_bracket ∷ []) (all_text name parts.all) refl);
      uncommented = ap (λ (l : List ℕ). open_bracket ∷ l) (comment-passes true name (close_bracket ∷ []) (none_in_name is_comment_sign refl name parts.all) (none_in_name is_quote refl name parts.all));
      begins = and_left_false (ltb 0 (length (header_line name)));
      ends = ends_otherwise (open_bracket ∷ name) close_bracket [] refl;
    }
  where
    and_left_false : (t : Bool) → (t && false) ≡ false
    and_left_false true = refl
    and_left_false false = refl

pub header_read : (name : List ℕ) → is_name name ≡ true → content_of (header_line name) ≡ Ok (section name)
header_read name is =
    content_alone (header_line name) (header_alone name is)
    ∙ rw (ends_in_last (open_bracket ∷ name) close_bracket, middle name open_bracket close_bracket, name_alone name is, is) refl

-- ---- a setting line

-- what a value is, and what needing no quotation marks says
record ValueParts (value : List ℕ) : Type 0 where
  text : list_all is_text_byte value ≡ true
  unquoted : list_any is_quote value ≡ false

value_parts : (value : List ℕ) → is_value value ≡ true → ValueParts value
value_parts value is =
    let parts = and_parts (list_all is_text_byte value) (not (list_any is_quote value)) is in
    record { text = parts.0; unquoted = not-true (list_any is_quote value) parts.1 }

record BareParts (value : List ℕ) : Type 0 where
  begins : begins_with_blank value ≡ false
  ends : ends_with_blank value ≡ false
  signs : list_any is_comment_sign value ≡ false

bare_parts : (value : List ℕ) → needs_quotes value ≡ false → BareParts value
bare_parts value bare =
    let a = or_parts (begins_with_blank value || ends_with_blank value) (list_any is_comment_sign value) bare in
    let b = or_parts (begins_with_blank value) (ends_with_blank value) a.0 in
    record { begins = b.0; ends = b.1; signs = a.1 }

raw_text : (value : List ℕ) → is_value value ≡ true → list_all is_text_byte (raw_value value) ≡ true
raw_text value is =
    elim (cases_Bool (needs_quotes value)) [
      | inl quoted ↦ rw quoted (and_from (is_text_byte quote) _ refl (all-append is_text_byte value (quote ∷ []) (value_parts value is).text refl))
      | inr bare ↦ rw bare (value_parts value is).text
    ]

raw_uncommented : (value : List ℕ) → is_value value ≡ true → before_comment_after true (raw_value value) ≡ raw_value value
raw_uncommented value is =
    elim (cases_Bool (needs_quotes value)) [
      | inl quoted ↦ rw quoted (ap (λ (l : List ℕ). quote ∷ l) (comment-quoted value (quote ∷ []) (value_parts value is).unquoted))
      | inr bare ↦ rw bare (ap (before_comment_after true) (sym (append-nil value)) ∙ comment-passes true value [] (bare_parts value bare).signs (value_parts value is).unquoted ∙ append-nil value)
    ]

bare_ends : (value : List ℕ) → ends_with_blank value ≡ false → is_blank (get_or (equals ∷ value) (length (equals ∷ value) - 1) 0) ≡ false
bare_ends [] ends = refl
bare_ends (c ∷ cs) ends =
    rw (ends-append (equals ∷ []) c cs) (second_fails (ltb 0 (length (c ∷ cs))) (is_blank (get_or (c ∷ cs) (length (c ∷ cs) - 1) 0)) (lt-ltb 0 _ (omega arith)) ends)

raw_ends : (value : List ℕ) → is_blank (get_or (equals ∷ raw_value value) (length (equals ∷ raw_value value) - 1) 0) ≡ false
raw_ends value =
    elim (cases_Bool (needs_quotes value)) [
      | inl quoted ↦ rw (quoted, ends-append (equals ∷ quote ∷ value) quote []) refl
      | inr bare ↦ rw bare (bare_ends value (bare_parts value bare).ends)
    ]

pub setting_alone : (name value : List ℕ) → is_name name ≡ true → is_value value ≡ true → StandsAlone (setting_line (name, value))
setting_alone name value is fits =
    let parts = name_parts name is in
    record {
      text = all-append is_text_byte name (equals ∷ raw_value value) (all_text name parts.all) (and_from (is_text_byte equals) _ refl (raw_text value fits));
      uncommented = comment-passes true name (equals ∷ raw_value value) (none_in_name is_comment_sign refl name parts.all) (none_in_name is_quote refl name parts.all)
          ∙ ap (λ (l : List ℕ). name ++ equals ∷ l) (raw_uncommented value fits);
      begins = name_begins name (equals ∷ raw_value value) is;
      ends = ends_otherwise name equals (raw_value value) (raw_ends value);
    }

quoted_read : (value : List ℕ) → is_value value ≡ true → value_in (quote ∷ value ++ quote ∷ []) ≡ Ok value
quoted_read value is =
    let alone : trimmed (quote ∷ value ++ quote ∷ []) ≡ quote ∷ value ++ quote ∷ [] = trimmed-same (quote ∷ value ++ quote ∷ []) (and_false (ltb 0 (length (quote ∷ value ++ quote ∷ [])))) (ends_otherwise (quote ∷ value) quote [] refl) in
    let long : leb 2 (length (quote ∷ value ++ quote ∷ [])) ≡ true = le-leb 2 _ (omega (arith, length-append value (quote ∷ []))) in
    rw (alone, long, ends_in_last (quote ∷ value) quote, middle value quote quote, (value_parts value is).unquoted) refl

pub not_quoted : (value : List ℕ) → list_any is_quote value ≡ false → is_quoted value ≡ false
not_quoted [] none = refl
not_quoted (c ∷ cs) none = rw (or_parts (is_quote c) (list_any is_quote cs) none).0 (go (leb 2 (length (c ∷ cs))))
  where
    go : (t : Bool) → (t && false && ends_in quote (c ∷ cs) && not (list_any is_quote (between_ends (c ∷ cs)))) ≡ false
    go true = refl
    go false = refl

bare_read : (value : List ℕ) → is_value value ≡ true → needs_quotes value ≡ false → value_in value ≡ Ok value
bare_read value is bare =
    let b = bare_parts value bare in
    rw (trimmed-same value b.begins b.ends, not_quoted value (value_parts value is).unquoted, (value_parts value is).unquoted) refl

raw_read : (value : List ℕ) → is_value value ≡ true → value_in (raw_value value) ≡ Ok value
raw_read value is =
    elim (cases_Bool (needs_quotes value)) [
      | inl quoted ↦ ap (λ (t : Bool). value_in (cond t (quote ∷ value ++ quote ∷ []) value)) quoted ∙ quoted_read value is
      | inr bare ↦ ap (λ (t : Bool). value_in (cond t (quote ∷ value ++ quote ∷ []) value)) bare ∙ bare_read value is bare
    ]

begins_setting : (name rest : List ℕ) → is_name name ≡ true → content_in (name ++ equals ∷ rest) ≡ setting_in (name ++ equals ∷ rest)
begins_setting [] rest is = absurd (true≢false (sym is))
begins_setting (b ∷ name) rest is =
    let parts = name_parts (b ∷ name) is in
    let first = name_byte_misses is_open_bracket refl b (and_parts (is_in_names b) (list_all is_in_names name) parts.all).0 in
    let clear = none_in_name is_equals refl (b ∷ name) parts.all in
    let has_equals : list_any is_equals (b ∷ name ++ equals ∷ rest) ≡ true = any-middle is_equals (b ∷ name) equals rest refl in
    let arrowless : split_at_arrow (before_first is_equals (b ∷ name ++ equals ∷ rest)) ≡ None =
    ap split_at_arrow (before_first-at is_equals (b ∷ name) equals rest clear refl) ∙ no_arrow (b ∷ name) (none_in_name is_dash refl (b ∷ name) parts.all) in
    let setting : is_setting (b ∷ name ++ equals ∷ rest) ≡ true = and_from _ _ has_equals (ap (λ o. not (is_some o)) arrowless) in
    rw (first, setting) refl

pub setting_read : (name value : List ℕ) → is_name name ≡ true → is_value value ≡ true → content_of (setting_line (name, value)) ≡ Ok (setting name value)
setting_read name value is fits =
    let clear = none_in_name is_equals refl name (name_parts name is).all in
    let name_is : name_in (before_first is_equals (name ++ equals ∷ raw_value value)) ≡ Ok name =
    ap name_in (before_first-at is_equals name equals (raw_value value) clear refl) ∙ rw (name_alone name is, is) refl in
    let value_is : value_in (after_first is_equals (name ++ equals ∷ raw_value value)) ≡ Ok value =
    ap value_in (after_first-at is_equals name equals (raw_value value) clear refl) ∙ raw_read value fits in
    content_alone (setting_line (name, value)) (setting_alone name value is fits)
    ∙ begins_setting name (raw_value value) is
    ∙ rw (name_is, value_is) refl

-- A line that begins with a name and '=' is a setting of that name.
use Rattle.std.proofs.Common.{◌≡◌, ℕ, zero, suc, ◌+◌, ◌-◌, ◌<◌, ◌≤◌, Bool, true, false, not, cond, eqb, ltb, ◌&&◌, ◌||◌, List, [], ◌∷◌, ◌++◌, length, take, drop, get_or, Some, None, refl, sym, ap, ◌∙◌, inl, inr, arith, append_assoc}
use Rattle.std.specs.Prelude.{Result, Ok, Err, is_some}
use Rattle.std.specs.List.{list_any, list_all, prefix_len, position, position_or_len, before_first, after_first}
use Rattle.std.proofs.lemmas.Bool.{and_parts, and_from, or_from, or_parts, or_cases, or_left, or_right, cases_Bool, cases_lt, lt-ltb, le-ltb, not-true, eqb-true}
use Rattle.std.proofs.lemmas.List.{append-nil, length-take}
use Rattle.std.proofs.lemmas.List.Folds.{list_all-append}
use Rattle.std.proofs.lemmas.List.Sums.{passes_at_first, split_at_first}
use Rattle.music_base.specs.Names.{is_name, is_in_names}
use Rattle.music_base.proofs.FirstPlaces.{before_first-at, after_first-at}
use Rattle.config_text.specs.declared.text_kind.TextKind.{TextKind}
use Rattle.config_text.specs.declared.text_kind.TextKind.TheVariants.{BadByte, BadName, BadLine}
use Rattle.music_base.specs.Blanks.{is_blank}
use Rattle.config_text.specs.Bytes.{equals, is_text_byte, is_quote, is_comment_sign, is_equals, is_open_bracket}
use Rattle.config_text.specs.Parts.{◌>>=◌, without_cr, before_comment_after, before_comment, without_leading_blanks, without_trailing_blanks, trimmed, begins_with_blank, ends_with_blank, between_ends, name_in}
use Rattle.config_text.specs.Connections.{split_at_arrow}
use Rattle.config_text.specs.Contents.{Content, setting, is_quoted, value_in, is_setting, setting_in, content_in, content_of}
use Rattle.config_text.specs.Inner.{IsSettingFront, is_plain_byte, value_behind, setting_before}
use Rattle.config_text.proofs.Firsts.{all-weaker, all-append, any-middle}
use Rattle.config_text.proofs.NameBytes.{misses_names, name_byte_misses, name_parts}
use Rattle.config_text.proofs.Ends.{last_apart, leading_yes, leading_no, trailing_yes, trailing_no, trailing-push_yes, trailing-push_no}
use Rattle.config_text.proofs.Alone.{comment-passes, no_cr_in_text}
use Rattle.config_text.proofs.Dashes.{is_dash, no_arrow}
use Rattle.config_text.proofs.TextBytes.{list_all-take, list_all-drop}
use Rattle.config_text.proofs.WrittenSetting.{not_quoted}

-- ---- bytes before the '='

pub begins : (x : ℕ) (xs : List ℕ) (t : Bool) → is_blank x ≡ t → begins_with_blank (x ∷ xs) ≡ t
begins x xs t e = rw (lt-ltb 0 (length (x ∷ xs)) (omega arith)) e

-- a blank or a byte of a name
abbrev pub is_front_byte : ℕ → Bool
is_front_byte b = is_blank b || is_in_names b

pub blank_byte : (p : ℕ → Bool) (t : Bool) → p 32 ≡ t → p 9 ≡ t → (b : ℕ) → is_blank b ≡ true → p b ≡ t
blank_byte p t space tab b is =
    elim (or_cases (eqb b 32) (eqb b 9) is) [
      | inl same ↦ ap p (eqb-true b 32 same) ∙ space
      | inr same ↦ ap p (eqb-true b 9 same) ∙ tab
    ]

front_misses : (p : ℕ → Bool) → misses_names p ≡ true → p 32 ≡ false → p 9 ≡ false → (b : ℕ) → is_front_byte b ≡ true → p b ≡ false
front_misses p misses space tab b is =
    elim (or_cases (is_blank b) (is_in_names b) is) [
      | inl blank ↦ blank_byte p false space tab b blank
      | inr named ↦ name_byte_misses p misses b named
    ]

pub none_in_front : (p : ℕ → Bool) → misses_names p ≡ true → p 32 ≡ false → p 9 ≡ false → (xs : List ℕ) → list_all is_front_byte xs ≡ true → list_any p xs ≡ false
none_in_front p misses space tab [] all = refl
none_in_front p misses space tab (x ∷ xs) all =
    let parts = and_parts (is_front_byte x) (list_all is_front_byte xs) all in
    or_from (p x) (list_any p xs) (front_misses p misses space tab x parts.0) (none_in_front p misses space tab xs parts.1)

pub all_from_none : (p : ℕ → Bool) (xs : List ℕ) → list_any (λ b. not (p b)) xs ≡ false → list_all p xs ≡ true
all_from_none p [] none = refl
all_from_none p (x ∷ xs) none =
    let parts = or_parts (not (p x)) (list_any (λ b. not (p b)) xs) none in
    and_from (p x) _ (not_false (p x) parts.0) (all_from_none p xs parts.1)
  where
    not_false : (t : Bool) → not t ≡ false → t ≡ true
    not_false true e = refl
    not_false false e = absurd cc

front_text : (xs : List ℕ) → list_all is_front_byte xs ≡ true → list_all is_text_byte xs ≡ true
front_text xs all = all_from_none is_text_byte xs (none_in_front (λ b. not (is_text_byte b)) refl refl refl xs all)

-- what blanks are dropped from holds such bytes where the rest does
all_leading : (xs : List ℕ) → list_all is_front_byte (without_leading_blanks xs) ≡ true → list_all is_front_byte xs ≡ true
all_leading [] all = refl
all_leading (x ∷ xs) all =
    elim (cases_Bool (is_blank x)) [
      | inl blank ↦
          let shorter = (leading_yes (x ∷ xs) (begins x xs true blank)).1 in
          and_from (is_front_byte x) _ (or_left (is_blank x) (is_in_names x) blank) (all_leading xs (ap (list_all is_front_byte) shorter ∙ all))
      | inr other ↦ sym (ap (list_all is_front_byte) (leading_no (x ∷ xs) (begins x xs false other))) ∙ all
    ]

all_trailing : (n : ℕ) (xs : List ℕ) → length xs ≤ n → list_all is_front_byte (without_trailing_blanks xs) ≡ true → list_all is_front_byte xs ≡ true
all_trailing zero [] le all = refl
all_trailing zero (x ∷ xs) le all = absurd (omega arith)
all_trailing (suc n) xs le all =
    elim (cases_Bool (ends_with_blank xs)) [
      | inl blank ↦
          let shorter = trailing_yes xs blank in
          let last = (and_parts (ltb 0 (length xs)) (is_blank (get_or xs (length xs - 1) 0)) blank).1 in
          let front = all_trailing n (take (length xs - 1) xs) (omega (arith, length-take (length xs - 1) xs)) (ap (list_all is_front_byte) shorter.1 ∙ all) in
          ap (list_all is_front_byte) (last_apart xs shorter.0)
          ∙ all-append is_front_byte (take (length xs - 1) xs) (get_or xs (length xs - 1) 0 ∷ []) front (and_from _ _ (or_left _ _ last) refl)
      | inr other ↦ sym (ap (list_all is_front_byte) (trailing_no xs other)) ∙ all
    ]

named_front : (xs : List ℕ) → list_all is_in_names xs ≡ true → list_all is_front_byte xs ≡ true
named_front xs all = all-weaker is_in_names is_front_byte (λ b is. or_right (is_blank b) (is_in_names b) is) xs all

found_name : (t : Bool) (text name : List ℕ) → cond t (Ok text) (Err BadName) ≡ Ok name → t ≡ true
found_name true text name e = refl
found_name false text name e = absurd cc

pub front_bytes : (before name : List ℕ) → name_in before ≡ Ok name → list_all is_front_byte before ≡ true
front_bytes before name e =
    let is : is_name (trimmed before) ≡ true = found_name (is_name (trimmed before)) (trimmed before) name e in
    all_leading before (all_trailing (length (without_leading_blanks before)) (without_leading_blanks before) (omega arith) (named_front (trimmed before) (name_parts (trimmed before) is).all))

-- ---- the line up to its comment

cr_past : (xs : List ℕ) (y : ℕ) (ys : List ℕ) → eqb y 13 ≡ false → without_cr (xs ++ y ∷ ys) ≡ xs ++ y ∷ without_cr ys
cr_past [] y [] other = rw other refl
cr_past [] y (z ∷ zs) other = refl
cr_past (x ∷ []) y ys other = ap (λ (l : List ℕ). x ∷ l) (cr_past [] y ys other)
cr_past (x ∷ w ∷ xs) y ys other = ap (λ (l : List ℕ). x ∷ l) (cr_past (w ∷ xs) y ys other)

visible_past : (before behind : List ℕ) → list_all is_front_byte before ≡ true → before_comment (without_cr (before ++ equals ∷ behind)) ≡ before ++ equals ∷ before_comment (without_cr behind)
visible_past before behind all =
    ap before_comment (cr_past before equals behind refl)
    ∙ comment-passes true before (equals ∷ without_cr behind) (none_in_front is_comment_sign refl refl refl before all) (none_in_front is_quote refl refl refl before all)

text_past : (before visible : List ℕ) → list_all is_front_byte before ≡ true → list_all is_text_byte (before ++ equals ∷ visible) ≡ list_all is_text_byte visible
text_past before visible all = list_all-append is_text_byte before (equals ∷ visible) ∙ rw (front_text before all) refl

-- ---- blanks behind the '='

trailing_past : (n : ℕ) (xs : List ℕ) (y : ℕ) (ys : List ℕ) → length ys ≤ n → is_blank y ≡ false → without_trailing_blanks (xs ++ y ∷ ys) ≡ xs ++ y ∷ without_trailing_blanks ys
trailing_past n xs y [] le other = trailing-push_no xs y other
trailing_past zero xs y (z ∷ zs) le other = absurd (omega arith)
trailing_past (suc n) xs y (z ∷ zs) le other =
    let some : 0 < length (z ∷ zs) = omega arith in
    let apart = last_apart (z ∷ zs) some in
    let front = take (length (z ∷ zs) - 1) (z ∷ zs) in
    let last = get_or (z ∷ zs) (length (z ∷ zs) - 1) 0 in
    let joined : xs ++ y ∷ z ∷ zs ≡ (xs ++ y ∷ front) ++ last ∷ [] = ap (λ (l : List ℕ). xs ++ y ∷ l) apart ∙ sym (append_assoc xs (y ∷ front) (last ∷ [])) in
    elim (cases_Bool (is_blank last)) [
      | inl blank ↦
          ap without_trailing_blanks joined
          ∙ trailing-push_yes (xs ++ y ∷ front) last blank
          ∙ trailing_past n xs y front (omega (arith, length-take (length (z ∷ zs) - 1) (z ∷ zs))) other
          ∙ ap (λ (l : List ℕ). xs ++ y ∷ l) (sym (ap without_trailing_blanks apart ∙ trailing-push_yes front last blank))
      | inr not_blank ↦
          ap without_trailing_blanks joined
          ∙ trailing-push_no (xs ++ y ∷ front) last not_blank
          ∙ sym joined
          ∙ ap (λ (l : List ℕ). xs ++ y ∷ l) (sym (ap without_trailing_blanks apart ∙ trailing-push_no front last not_blank ∙ sym apart))
    ]

trimmed-push : (xs : List ℕ) (y : ℕ) → is_blank y ≡ true → trimmed (xs ++ y ∷ []) ≡ trimmed xs
trimmed-push [] y blank = ap without_trailing_blanks (sym (leading_yes (y ∷ []) (begins y [] true blank)).1)
trimmed-push (x ∷ xs) y blank =
    elim (cases_Bool (is_blank x)) [
      | inl first ↦
          ap without_trailing_blanks (sym (leading_yes (x ∷ xs ++ y ∷ []) (begins x (xs ++ y ∷ []) true first)).1)
          ∙ trimmed-push xs y blank
          ∙ ap without_trailing_blanks (leading_yes (x ∷ xs) (begins x xs true first)).1
      | inr other ↦
          ap without_trailing_blanks (leading_no (x ∷ xs ++ y ∷ []) (begins x (xs ++ y ∷ []) false other))
          ∙ trailing-push_yes (x ∷ xs) y blank
          ∙ ap without_trailing_blanks (sym (leading_no (x ∷ xs) (begins x xs false other)))
    ]

pub trimmed_trailing : (n : ℕ) (xs : List ℕ) → length xs ≤ n → trimmed (without_trailing_blanks xs) ≡ trimmed xs
trimmed_trailing zero [] le = refl
trimmed_trailing zero (x ∷ xs) le = absurd (omega arith)
trimmed_trailing (suc n) xs le =
    elim (cases_Bool (ends_with_blank xs)) [
      | inl blank ↦
          let shorter = trailing_yes xs blank in
          let last = (and_parts (ltb 0 (length xs)) (is_blank (get_or xs (length xs - 1) 0)) blank).1 in
          ap trimmed (sym shorter.1)
          ∙ trimmed_trailing n (take (length xs - 1) xs) (omega (arith, length-take (length xs - 1) xs))
          ∙ sym (ap trimmed (last_apart xs shorter.0) ∙ trimmed-push (take (length xs - 1) xs) _ last)
      | inr other ↦ ap trimmed (trailing_no xs other)
    ]

value_trailing : (xs : List ℕ) → value_in (without_trailing_blanks xs) ≡ value_in xs
value_trailing xs =
    ap (λ (raw : List ℕ). cond (is_quoted raw) (Ok (between_ends raw)) (cond (list_any is_quote raw) (Err BadLine) (Ok raw))) (trimmed_trailing (length xs) xs (omega arith))

-- ---- the content

abbrev named : Result (List ℕ) TextKind → Result (List ℕ) TextKind → Result Content TextKind
named name value = name >>= λ n. value >>= λ v. Ok (setting n v)

begins_named : (b : ℕ) (before rest : List ℕ) → is_blank b ≡ false → list_all is_front_byte (b ∷ before) ≡ true
    → content_in (b ∷ before ++ equals ∷ rest) ≡ named (name_in (b ∷ before)) (value_in rest)
begins_named b before rest other all =
    let first : is_open_bracket b ≡ false = front_misses is_open_bracket refl refl refl b (and_parts (is_front_byte b) (list_all is_front_byte before) all).0 in
    let clear = none_in_front is_equals refl refl refl (b ∷ before) all in
    let has_equals : list_any is_equals (b ∷ before ++ equals ∷ rest) ≡ true = any-middle is_equals (b ∷ before) equals rest refl in
    let front : before_first is_equals (b ∷ before ++ equals ∷ rest) ≡ b ∷ before = before_first-at is_equals (b ∷ before) equals rest clear refl in
    let back : after_first is_equals (b ∷ before ++ equals ∷ rest) ≡ rest = after_first-at is_equals (b ∷ before) equals rest clear refl in
    let arrowless : split_at_arrow (b ∷ before) ≡ None = no_arrow (b ∷ before) (none_in_front is_dash refl refl refl (b ∷ before) all) in
    let is : is_setting (b ∷ before ++ equals ∷ rest) ≡ true = and_from _ _ has_equals (ap (λ (l : List ℕ). not (is_some (split_at_arrow l))) front ∙ ap (λ o. not (is_some o)) arrowless) in
    let reads : setting_in (b ∷ before ++ equals ∷ rest) ≡ named (name_in (b ∷ before)) (value_in rest) =
    ap (λ (l : List ℕ). named (name_in l) (value_in (after_first is_equals (b ∷ before ++ equals ∷ rest)))) front ∙ ap (λ (l : List ℕ). named (name_in (b ∷ before)) (value_in l)) back in
    chosen _ _ (is_open_bracket b) (is_setting (b ∷ before ++ equals ∷ rest)) first is reads
  where
    chosen : {X : Type 0} {b d : X} (a c : X) (s t : Bool) → s ≡ false → t ≡ true → b ≡ d → cond s a (cond t b c) ≡ d
    chosen a c s t e f same = rw (e, f) same

content_past : (before visible : List ℕ) (name : List ℕ) → name_in before ≡ Ok name → list_all is_front_byte before ≡ true
    → content_in (trimmed (before ++ equals ∷ visible)) ≡ named (name_in before) (value_in visible)
content_past [] visible name e all = absurd cc
content_past (b ∷ before) visible name e all =
    let parts = and_parts (is_front_byte b) (list_all is_front_byte before) all in
    elim (cases_Bool (is_blank b)) [
      | inl blank ↦
          let shorter : trimmed before ≡ trimmed (b ∷ before) = ap without_trailing_blanks (leading_yes (b ∷ before) (begins b before true blank)).1 in
          let same : name_in before ≡ name_in (b ∷ before) = ap (λ (n : List ℕ). cond (is_name n) (Ok n) (Err BadName)) shorter in
          ap content_in (ap without_trailing_blanks (sym (leading_yes (b ∷ before ++ equals ∷ visible) (begins b (before ++ equals ∷ visible) true blank)).1))
          ∙ content_past before visible name (same ∙ e) parts.1
          ∙ ap (λ n. named n (value_in visible)) same
      | inr other ↦
          ap content_in (ap without_trailing_blanks (leading_no (b ∷ before ++ equals ∷ visible) (begins b (before ++ equals ∷ visible) false other))
          ∙ trailing_past (length visible) (b ∷ before) equals visible (omega arith) refl)
          ∙ begins_named b before (without_trailing_blanks visible) other all
          ∙ ap (λ v. named (name_in (b ∷ before)) v) (value_trailing visible)
    ]

-- a line of such a front says what its name and its value say
pub front_read : (line name behind : List ℕ) → IsSettingFront line name behind → content_of line ≡ setting_before name behind
front_read line name behind (before, is, e) =
    let all = front_bytes before name e in
    let visible = before_comment (without_cr behind) in
    ap content_of is
    ∙ ap (λ (v : List ℕ). cond (list_all is_text_byte v) (content_in (trimmed v)) (Err BadByte)) (visible_past before behind all)
    ∙ ap (λ t. cond t (content_in (trimmed (before ++ equals ∷ visible))) (Err BadByte)) (text_past before visible all)
    ∙ ap (λ c. cond (list_all is_text_byte visible) c (Err BadByte)) (content_past before visible name e all ∙ ap (λ n. named n (value_in visible)) e)
    ∙ go (list_all is_text_byte visible)
  where
    go : (t : Bool) → cond t (named (Ok name) (value_in (before_comment (without_cr behind)))) (Err BadByte) ≡ (cond t (value_in (before_comment (without_cr behind))) (Err BadByte) >>= λ v. Ok (setting name v))
    go true = refl
    go false = refl

-- ---- a value with neither a comment nor a quotation mark

record PlainParts (xs : List ℕ) : Type 0 where
  text : list_all is_text_byte xs ≡ true
  unquoted : list_any is_quote xs ≡ false
  unsigned : list_any is_comment_sign xs ≡ false

plain_parts : (xs : List ℕ) → list_all is_plain_byte xs ≡ true → PlainParts xs
plain_parts [] all = record { text = refl; unquoted = refl; unsigned = refl }
plain_parts (x ∷ xs) all =
    let a = and_parts (is_plain_byte x) (list_all is_plain_byte xs) all in
    let b = and_parts (is_text_byte x && not (is_quote x)) (not (is_comment_sign x)) a.0 in
    let c = and_parts (is_text_byte x) (not (is_quote x)) b.0 in
    let rest = plain_parts xs a.1 in
    record {
      text = and_from _ _ c.0 rest.text;
      unquoted = or_from _ _ (not-true _ c.1) rest.unquoted;
      unsigned = or_from _ _ (not-true _ b.1) rest.unsigned;
    }

pub plain_read : (behind : List ℕ) → list_all is_plain_byte behind ≡ true → value_behind behind ≡ Ok (trimmed behind)
plain_read behind all =
    let p = plain_parts behind all in
    let raw = plain_parts (trimmed behind) (list_all-take is_plain_byte _ (without_leading_blanks behind) (list_all-drop is_plain_byte (prefix_len is_blank behind) behind all)) in
    let visible : before_comment (without_cr behind) ≡ behind =
    ap before_comment (no_cr_in_text behind p.text) ∙ ap (before_comment_after true) (sym (append-nil behind)) ∙ comment-passes true behind [] p.unsigned p.unquoted ∙ append-nil behind in
    rw (visible, p.text, not_quoted (trimmed behind) raw.unquoted, raw.unquoted) refl

-- ---- where the '=' stands

pub cut_at : (bytes : List ℕ) (byte place : ℕ) → Some place ≡ position (λ b. eqb b byte) bytes → bytes ≡ take place bytes ++ byte ∷ drop (place + 1) bytes
cut_at bytes byte place e =
    let p = λ (b : ℕ). eqb b byte in
    elim (cases_lt (position_or_len p bytes) (length bytes)) [
      | inl lt ↦
          let same : Some place ≡ Some (position_or_len p bytes) = rw (lt-ltb _ _ lt) at e in
          let there : place ≡ position_or_len p bytes = cc in
          let is : get_or bytes (position_or_len p bytes) 0 ≡ byte = eqb-true _ byte (passes_at_first p bytes 0 lt) in
          split_at_first p bytes 0 lt ∙ rw (is, there) refl
      | inr ge ↦ let none : Some place ≡ None = rw (le-ltb _ _ ge) at e in absurd cc
    ]

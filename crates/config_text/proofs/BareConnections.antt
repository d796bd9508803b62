-- A connection that stands as a.p -> b.q or a.p -> b.q [7] is read with no options.
use Rattle.std.proofs.Common.{◌≡◌, ℕ, zero, suc, ◌-◌, ◌<◌, ◌≤◌, Bool, true, false, cond, eqb, leb, ltb, ◌&&◌, ◌||◌, List, [], ◌∷◌, ◌++◌, length, take, get_or, refl, sym, subst, ap, ◌∙◌, inl, inr, arith, Option, Some, None}
use Rattle.std.specs.Prelude.{Result, Ok, Err}
use Rattle.std.specs.Char.{is_ascii_digit}
use Rattle.std.specs.Int.{is_in_range}
use Rattle.std.specs.List.{list_any, list_all, before_first, after_first, position_or_len}
use Rattle.std.specs.Str.Parse.{digits_value}
use Rattle.std.proofs.lemmas.Bool.{and_parts, or_from, cases_Bool, eqb-true, ltb-true}
use Rattle.std.proofs.lemmas.List.Sums.{passes_at_first, split_at_first}
use Rattle.std.proofs.lemmas.List.{length-take}
use Rattle.music_base.specs.Names.{is_name, is_in_names}
use Rattle.music_base.specs.Blanks.{is_blank}
use Rattle.music_base.specs.Counts.{is_count}
use Rattle.music_base.specs.Times.{is_point}
use Rattle.music_base.proofs.FirstPlaces.{cut_first, is_found, before_first-at, after_first-at}
use Rattle.config_text.specs.declared.link_text.LinkText.{LinkText}
use Rattle.config_text.specs.declared.arrows.Arrow.TheVariants.{FromSender}
use Rattle.config_text.specs.declared.text_kind.TextKind.{TextKind}
use Rattle.config_text.specs.Bytes.{close_bracket, is_quote, is_open_bracket, is_close_bracket}
use Rattle.config_text.specs.Parts.{◌>>=◌, without_leading_blanks, without_trailing_blanks, trimmed, ends_with_blank, ends_in}
use Rattle.config_text.specs.BareTexts as bare
use Rattle.config_text.specs.BareTexts.{without_last}
use Rattle.config_text.specs.Connections.{AtArrow, end_in, width_in, most_width, link_between, connection_of, connection_in, end_text}
use Rattle.config_text.specs.Options.{no_options}
use Rattle.config_text.proofs.Firsts.{all-weaker, any-append, any-middle}
use Rattle.config_text.proofs.NameBytes.{misses_names, none_in_name}
use Rattle.config_text.proofs.Ends.{last_apart, leading_yes, leading_no, trailing_yes, trailing_no}
use Rattle.config_text.proofs.Alone.{ends-append}
use Rattle.config_text.proofs.Dashes.{is_less}
use Rattle.config_text.proofs.SettingLine.{begins, blank_byte, trimmed_trailing}
use Rattle.config_text.proofs.WrittenEnds.{none_in_end, digit_in_names}
use Rattle.config_text.proofs.BareArrows.{no_text, same_cut, bare_right}

-- ---- what blanks are taken from

-- a test that no blank passes: where none passes between the blanks, none passes
none_leading : (p : ℕ → Bool) → p 32 ≡ false → p 9 ≡ false → (xs : List ℕ) → list_any p (without_leading_blanks xs) ≡ false → list_any p xs ≡ false
none_leading p space tab [] none = refl
none_leading p space tab (x ∷ xs) none =
    elim (cases_Bool (is_blank x)) [
      | inl blank ↦
          let shorter = (leading_yes (x ∷ xs) (begins x xs true blank)).1 in
          or_from (p x) _ (blank_byte p false space tab x blank) (none_leading p space tab xs (ap (list_any p) shorter ∙ none))
      | inr other ↦ sym (ap (list_any p) (leading_no (x ∷ xs) (begins x xs false other))) ∙ none
    ]

none_trailing : (p : ℕ → Bool) → p 32 ≡ false → p 9 ≡ false → (n : ℕ) (xs : List ℕ) → length xs ≤ n → list_any p (without_trailing_blanks xs) ≡ false → list_any p xs ≡ false
none_trailing p space tab zero [] le none = refl
none_trailing p space tab zero (x ∷ xs) le none = absurd (omega arith)
none_trailing p space tab (suc n) xs le none =
    elim (cases_Bool (ends_with_blank xs)) [
      | inl blank ↦
          let shorter = trailing_yes xs blank in
          let last = (and_parts (ltb 0 (length xs)) (is_blank (get_or xs (length xs - 1) 0)) blank).1 in
          let front = none_trailing p space tab n (take (length xs - 1) xs) (omega (arith, length-take (length xs - 1) xs)) (ap (list_any p) shorter.1 ∙ none) in
          ap (list_any p) (last_apart xs shorter.0)
          ∙ any-append p (take (length xs - 1) xs) (get_or xs (length xs - 1) 0 ∷ []) front (or_from _ false (blank_byte p false space tab _ last) refl)
      | inr other ↦ sym (ap (list_any p) (trailing_no xs other)) ∙ none
    ]

pub none_around : (p : ℕ → Bool) → p 32 ≡ false → p 9 ≡ false → (xs : List ℕ) → list_any p (trimmed xs) ≡ false → list_any p xs ≡ false
none_around p space tab xs none = none_leading p space tab xs (none_trailing p space tab (length (without_leading_blanks xs)) (without_leading_blanks xs) (omega arith) none)

leading_again : (xs : List ℕ) → without_leading_blanks (without_leading_blanks xs) ≡ without_leading_blanks xs
leading_again [] = refl
leading_again (x ∷ xs) =
    elim (cases_Bool (is_blank x)) [
      | inl blank ↦
          let shorter = (leading_yes (x ∷ xs) (begins x xs true blank)).1 in
          ap without_leading_blanks (sym shorter) ∙ leading_again xs ∙ shorter
      | inr other ↦ ap without_leading_blanks (leading_no (x ∷ xs) (begins x xs false other))
    ]

pub trimmed_again : (xs : List ℕ) → trimmed (trimmed xs) ≡ trimmed xs
trimmed_again xs =
    trimmed_trailing (length (without_leading_blanks xs)) (without_leading_blanks xs) (omega arith) ∙ ap without_trailing_blanks (leading_again xs)

-- ---- steps of reading

pub else_ok : {A : Type 0} (t : Bool) (kind : TextKind) (x : Result A TextKind) (y : A) → cond t (Err kind) x ≡ Ok y → (t ≡ false) × (x ≡ Ok y)
else_ok true kind x y e = absurd cc
else_ok false kind x y e = (refl, e)

pub then_ok : {A : Type 0} (t : Bool) (kind : TextKind) (x : Result A TextKind) (y : A) → cond t x (Err kind) ≡ Ok y → (t ≡ true) × (x ≡ Ok y)
then_ok true kind x y e = (refl, e)
then_ok false kind x y e = absurd cc

pub step_ok : {A B : Type 0} (r : Result A TextKind) (f : A → Result B TextKind) (y : B) → (r >>= f) ≡ Ok y → (a : A) × (r ≡ Ok a) × (f a ≡ Ok y)
step_ok (Ok a) f y e = (a, refl, e)
step_ok (Err kind) f y e = absurd cc

abbrev pub Good : {A : Type 0} → A → Result A TextKind
Good x = Ok x

pub same_ok : {A : Type 0} (x y : A) → Good x ≡ Good y → x ≡ y
same_ok x y e = cc

-- ---- an end

pub record IsEnd (text : List ℕ) (names : List ℕ × List ℕ) : Type 0 where
  pub is : trimmed text ≡ end_text names.0 names.1
  pub app : is_name names.0 ≡ true
  pub port : is_name names.1 ≡ true

pub end_is : (text : List ℕ) (names : List ℕ × List ℕ) → end_in text ≡ Ok names → IsEnd text names
end_is text names e =
    let inner = trimmed text in
    let found = then_ok (is_name (before_first is_point inner) && is_name (after_first is_point inner)) _ _ names e in
    let same = same_ok _ names found.1 in
    let are = and_parts (is_name (before_first is_point inner)) (is_name (after_first is_point inner)) found.0 in
    subst (λ (n : List ℕ × List ℕ). IsEnd text n) same
    (elim (cut_first is_point inner) [
      | inl none ↦ let empty : is_name [] ≡ true = rw none.1 at are.1 in absurd cc
      | inr (y, point, any, is) ↦ record { is = is ∙ ap (λ (b : ℕ). before_first is_point inner ++ (b ∷ after_first is_point inner)) (eqb-true y 46 point); app = are.0; port = are.1 }
    ])

-- a test that no byte of an end passes, nor a blank
none_in_text : (p : ℕ → Bool) → misses_names p ≡ true → p 46 ≡ false → p 32 ≡ false → p 9 ≡ false → (text : List ℕ) (names : List ℕ × List ℕ) → end_in text ≡ Ok names → list_any p text ≡ false
none_in_text p misses point space tab text names e =
    let is = end_is text names e in
    none_around p space tab text (ap (list_any p) is.is ∙ none_in_end p misses point names.0 names.1 is.app is.port)

-- ---- what stands behind the arrow

abbrev at_front : List ℕ → List ℕ → AtArrow
at_front l r = record { before = l; behind = r; arrow = FromSender }

bare_from : (l r : List ℕ) (from to : List ℕ × List ℕ) → (list_any is_quote l || list_any is_quote r) ≡ false → list_any is_open_bracket (trimmed r) ≡ false → list_any is_blank (trimmed r) ≡ false
    → end_in l ≡ Ok from → end_in (trimmed r) ≡ Ok to → connection_of (at_front l r) ≡ Ok (link_between from to None no_options)
bare_from l r from to quotes unopened blankless a b = rw (quotes, bare_right (trimmed r) unopened blankless, a, b, no_text) refl

bare_read : (l r : List ℕ) (link : LinkText) → (list_any is_quote l || list_any is_quote r) ≡ false → list_any is_open_bracket (trimmed r) ≡ false
    → bare.connection_without_width l (trimmed r) ≡ Ok link → connection_of (at_front l r) ≡ Ok link
bare_read l r link quotes unopened e =
    let right = trimmed r in
    let from = step_ok (end_in l) _ link e in
    let to = step_ok (end_in right) _ link from.2 in
    let same = same_ok (link_between from.0 to.0 None no_options) link to.2 in
    let is = end_is right to.0 to.1 in
    let blankless : list_any is_blank right ≡ false = ap (list_any is_blank) (sym (trimmed_again r) ∙ is.is) ∙ none_in_end is_blank refl refl to.0.0 to.0.1 is.app is.port in
    bare_from l r from.0 to.0 quotes unopened blankless from.1 to.1 ∙ ap (λ (x : LinkText). Ok x) same

-- the width text goes to the last byte
record ClosedAtEnd (inside : List ℕ) : Type 0 where
  is : inside ≡ without_last inside ++ close_bracket ∷ []

closed_at_end : (right : List ℕ) → list_any is_open_bracket right ≡ true → ends_in close_bracket right ≡ true → ClosedAtEnd (after_first is_open_bracket right)
closed_at_end right opens ends =
    let p = is_open_bracket in
    let lt : position_or_len p right < length right = ltb-true _ _ (is_found p right ∙ opens) in
    behind (before_first p right) (get_or right (position_or_len p right) 0) (after_first p right) (passes_at_first p right 0 lt) (ap (ends_in close_bracket) (sym (split_at_first p right 0 lt)) ∙ ends)
  where
    behind : (front : List ℕ) (y : ℕ) (inside : List ℕ) → is_open_bracket y ≡ true → ends_in close_bracket (front ++ (y ∷ inside)) ≡ true → ClosedAtEnd inside
    behind front y [] opened ends =
        let last : y ≡ 93 = sym (ends-append front y []) ∙ eqb-true _ 93 ends in
        let wrong : eqb 93 91 ≡ true = rw last at opened in
        absurd cc
    behind front y (z ∷ inside) opened ends =
        let last : get_or (z ∷ inside) (length (z ∷ inside) - 1) 0 ≡ 93 = sym (ends-append (y ∷ []) z inside) ∙ sym (ends-append front y (z ∷ inside)) ∙ eqb-true _ 93 ends in
        record { is = last_apart (z ∷ inside) (omega arith) ∙ ap (λ (b : ℕ). take (length (z ∷ inside) - 1) (z ∷ inside) ++ b ∷ []) last }

count_closed : (text : List ℕ) (width : ℕ) → width_in text ≡ Ok width → list_any is_close_bracket text ≡ false
count_closed text width e =
    let count = trimmed text in
    let fits = then_ok (is_count count && is_in_range 1 most_width (digits_value 10 count)) _ _ width e in
    let digits = (and_parts (leb 1 (length count)) (list_all is_ascii_digit count) (and_parts (is_count count) _ fits.0).0).1 in
    none_around is_close_bracket refl refl text (none_in_name is_close_bracket refl count (all-weaker is_ascii_digit is_in_names digit_in_names count digits))

wide_from : (l r text : List ℕ) (from to : List ℕ × List ℕ) (width : ℕ) → (list_any is_quote l || list_any is_quote r) ≡ false → list_any is_open_bracket (trimmed r) ≡ true
    → after_first is_open_bracket (trimmed r) ≡ text ++ close_bracket ∷ [] → list_any is_close_bracket text ≡ false
    → end_in l ≡ Ok from → end_in (before_first is_open_bracket (trimmed r)) ≡ Ok to → width_in text ≡ Ok width → connection_of (at_front l r) ≡ Ok (link_between from to (Some width) no_options)
wide_from l r text from to width quotes opens is clear a b w =
    rw (quotes, opens, is, any-middle is_close_bracket text close_bracket [] refl, before_first-at is_close_bracket text close_bracket [] clear refl, after_first-at is_close_bracket text close_bracket [] clear refl, a, b, w, no_text) refl

wide_read : (l r : List ℕ) (link : LinkText) → (list_any is_quote l || list_any is_quote r) ≡ false → list_any is_open_bracket (trimmed r) ≡ true
    → bare.connection_with_width l (trimmed r) ≡ Ok link → connection_of (at_front l r) ≡ Ok link
wide_read l r link quotes opens e =
    let right = trimmed r in
    let closed = then_ok (ends_in close_bracket right) _ _ link e in
    let from = step_ok (end_in l) _ link closed.1 in
    let to = step_ok (end_in (before_first is_open_bracket right)) _ link from.2 in
    let inside = after_first is_open_bracket right in
    let width = step_ok (width_in (without_last inside)) _ link to.2 in
    let same = same_ok (link_between from.0 to.0 (Some width.0) no_options) link width.2 in
    let is = (closed_at_end right opens closed.0).is in
    let clear = count_closed (without_last inside) width.0 width.1 in
    wide_from l r (without_last inside) from.0 to.0 width.0 quotes opens is clear from.1 to.1 width.1 ∙ ap (λ (x : LinkText). Ok x) same

between_read : (l r : List ℕ) (link : LinkText) → bare.connection_between l r ≡ Ok link → connection_of (at_front l r) ≡ Ok link
between_read l r link e =
    let quotes = else_ok (list_any is_quote l || list_any is_quote r) _ _ link e in
    go (list_any is_open_bracket (trimmed r)) refl quotes.0 quotes.1
  where
    go : (t : Bool) → list_any is_open_bracket (trimmed r) ≡ t → (list_any is_quote l || list_any is_quote r) ≡ false
        → cond t (bare.connection_with_width l (trimmed r)) (bare.connection_without_width l (trimmed r)) ≡ Ok link → connection_of (at_front l r) ≡ Ok link
    go true is quotes e = wide_read l r link quotes is e
    go false is quotes e = bare_read l r link quotes is e

-- no '<' stands in the left part
left_clear : (l r : List ℕ) (link : LinkText) → bare.connection_between l r ≡ Ok link → list_any is_less l ≡ false
left_clear l r link e =
    let quotes = else_ok (list_any is_quote l || list_any is_quote r) _ _ link e in
    go (list_any is_open_bracket (trimmed r)) quotes.1
  where
    left : (names : List ℕ × List ℕ) → end_in l ≡ Ok names → list_any is_less l ≡ false
    left names is = none_in_text is_less refl refl refl refl l names is

    go : (t : Bool) → cond t (bare.connection_with_width l (trimmed r)) (bare.connection_without_width l (trimmed r)) ≡ Ok link → list_any is_less l ≡ false
    go true e =
        let closed = then_ok (ends_in close_bracket (trimmed r)) _ _ link e in
        let from = step_ok (end_in l) _ link closed.1 in
        left from.0 from.1
    go false e = let from = step_ok (end_in l) _ link e in left from.0 from.1

pub connection_same : (content : List ℕ) (link : LinkText) → bare.connection_in content ≡ Ok link → connection_in content ≡ Ok link
connection_same content link e = go (bare.split_at_arrow content) refl e
  where
    go : (o : Option (List ℕ × List ℕ)) → bare.split_at_arrow content ≡ o → bare.connection_at o ≡ Ok link → connection_in content ≡ Ok link
    go None is e = absurd cc
    go (Some (l, r)) is e = rw (same_cut content l r (left_clear l r link e) is) (between_read l r link e)

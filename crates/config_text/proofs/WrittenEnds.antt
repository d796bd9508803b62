-- The ends and the width of a connection, as they are written.
use Rattle.std.proofs.Common.{◌≡◌, ℕ, ◌-◌, ◌<◌, Bool, true, false, eqb, leb, ltb, ◌&&◌, List, [], ◌∷◌, ◌++◌, length, get_or, Some, refl, sym, ap, ◌∙◌, arith, append_assoc}
use Rattle.std.specs.Prelude.{Ok}
use Rattle.std.specs.Char.{is_ascii_digit}
use Rattle.std.specs.Fmt.{decimal}
use Rattle.std.specs.Str.Parse.{AllDigits}
use Rattle.std.proofs.lemmas.Fmt.{decimal_is_IsNumeral}
use Rattle.std.specs.List.{list_any, list_all}
use Rattle.std.proofs.lemmas.Bool.{and_parts, and_from, or_from, or_parts, or_left, leb-true, le-leb, lt-ltb, true≢false}
use Rattle.std.proofs.lemmas.List.{length-append, append-nil}
use Rattle.std.proofs.lemmas.List.Sums.{AllPass-from_list_all}
use Rattle.music_base.specs.Names.{is_name, is_in_names}
use Rattle.music_base.specs.Blanks.{space, is_blank}
use Rattle.music_base.specs.Times.{point, is_point}
use Rattle.config_text.specs.Bytes.{open_bracket, close_bracket, arrow, is_text_byte, is_quote, is_comment_sign}
use Rattle.config_text.specs.Parts.{before_comment_after, without_trailing_blanks, trimmed, begins_with_blank, ends_with_blank}
use Rattle.music_base.specs.Counts.{is_count}
use Rattle.config_text.specs.Connections.{end_in, width_in, is_width, end_text}
use Rattle.config_text.proofs.Firsts.{any-append, all-append, all-weaker, and_false}
use Rattle.music_base.proofs.DigitValues.{are_ascii_digits}
use Rattle.music_base.proofs.FirstPlaces.{before_first-at, after_first-at}
use Rattle.config_text.proofs.NameBytes.{name_byte_misses, misses_names, none_in_name, all_text, name_parts}
use Rattle.config_text.proofs.Ends.{leading_no, trailing_no, leading_yes, trailing-push_yes, second_fails}
use Rattle.config_text.proofs.Alone.{StandsAlone, comment-passes, trimmed-same, ends-append, ends_otherwise, name_begins, name_ends}

-- ---- the digits of a width

pub digit_in_names : (b : ℕ) → is_ascii_digit b ≡ true → is_in_names b ≡ true
digit_in_names b is = or_left _ (eqb b 95) (or_left _ (leb 97 b && leb b 122) (or_left (leb 48 b && leb b 57) (leb 65 b && leb b 90) is))

pub digits_in_names : (ds : List ℕ) → AllDigits 10 ds → list_all is_in_names ds ≡ true
digits_in_names ds digits = all-weaker is_ascii_digit is_in_names digit_in_names ds (are_ascii_digits ds digits)

-- bytes of names, at least one, have no blank at their ends
word_begins : (xs rest : List ℕ) → 0 < length xs → list_all is_in_names xs ≡ true → begins_with_blank (xs ++ rest) ≡ false
word_begins [] rest some all = absurd (omega arith)
word_begins (b ∷ xs) rest some all =
    rw (name_byte_misses is_blank refl b (and_parts (is_in_names b) (list_all is_in_names xs) all).0) (and_false (ltb 0 (length (b ∷ xs ++ rest))))

word_ends : (xs : List ℕ) → 0 < length xs → list_all is_in_names xs ≡ true → is_blank (get_or xs (length xs - 1) 0) ≡ false
word_ends xs some all = name_byte_misses is_blank refl (get_or xs (length xs - 1) 0) (AllPass-from_list_all is_in_names xs all (length xs - 1) 0 (omega arith))

pub word_alone : (xs : List ℕ) → 0 < length xs → list_all is_in_names xs ≡ true → trimmed xs ≡ xs
word_alone xs some all =
    trimmed-same xs (ap begins_with_blank (sym (append-nil xs)) ∙ word_begins xs [] some all) (rw (word_ends xs some all) (and_false (ltb 0 (length xs))))

pub width_read : (width : ℕ) → is_width (Some width) ≡ true → width_in (decimal width) ≡ Ok width
width_read width fits =
    let top = leb-true width 65536 (and_parts (leb 1 width) (leb width 65536) fits).1 in
    let numeral = decimal_is_IsNumeral width (omega (arith, top)) in
    let count : is_count (decimal width) ≡ true = and_from _ _ (le-leb 1 _ (omega (arith, numeral.0.0))) (are_ascii_digits (decimal width) numeral.0.1) in
    rw (word_alone (decimal width) numeral.0.0 (digits_in_names (decimal width) numeral.0.1), count, numeral.1, fits) refl

-- ---- one end

-- a test that no byte of an end passes
pub none_in_end : (p : ℕ → Bool) → misses_names p ≡ true → p point ≡ false → (app port : List ℕ) → is_name app ≡ true → is_name port ≡ true → list_any p (end_text app port) ≡ false
none_in_end p misses at_point app port a b =
    any-append p app (point ∷ port) (none_in_name p misses app (name_parts app a).all)
    (or_from (p point) (list_any p port) at_point (none_in_name p misses port (name_parts port b).all))

pub end_is_text : (app port : List ℕ) → is_name app ≡ true → is_name port ≡ true → list_all is_text_byte (end_text app port) ≡ true
end_is_text app port a b =
    all-append is_text_byte app (point ∷ port) (all_text app (name_parts app a).all) (and_from (is_text_byte point) _ refl (all_text port (name_parts port b).all))

end_last : (app port : List ℕ) → is_name port ≡ true → is_blank (get_or (end_text app port) (length (end_text app port) - 1) 0) ≡ false
end_last app [] b = absurd (true≢false (sym b))
end_last app (c ∷ port) b =
    rw (ends-append app point (c ∷ port), ends-append (point ∷ []) c port) (name_ends (c ∷ port) b)

pub end_ends : (app port : List ℕ) → is_name port ≡ true → ends_with_blank (end_text app port) ≡ false
end_ends app port b = rw (end_last app port b) (and_false (ltb 0 (length (end_text app port))))

pub end_alone : (app port : List ℕ) → is_name app ≡ true → is_name port ≡ true → trimmed (end_text app port) ≡ end_text app port
end_alone app port a b = trimmed-same (end_text app port) (name_begins app (point ∷ port) a) (end_ends app port b)

pub end_parts : (text app port : List ℕ) → trimmed text ≡ end_text app port → is_name app ≡ true → is_name port ≡ true → end_in text ≡ Ok (app, port)
end_parts text app port is a b =
    let clear = none_in_name is_point refl app (name_parts app a).all in
    rw (is, before_first-at is_point app point port clear refl, after_first-at is_point app point port clear refl, a, b) refl

-- with a blank behind it
pub trimmed-behind : (xs : List ℕ) → begins_with_blank (xs ++ space ∷ []) ≡ false → ends_with_blank xs ≡ false → trimmed (xs ++ space ∷ []) ≡ xs
trimmed-behind xs begins ends = ap without_trailing_blanks (leading_no (xs ++ space ∷ []) begins) ∙ trailing-push_yes xs space refl ∙ trailing_no xs ends

-- with a blank before it
pub trimmed-before : (xs : List ℕ) → begins_with_blank xs ≡ false → ends_with_blank xs ≡ false → trimmed (space ∷ xs) ≡ xs
trimmed-before xs begins ends = ap without_trailing_blanks (sym (leading_yes (space ∷ xs) (and_from _ _ (lt-ltb 0 (length (space ∷ xs)) (omega arith)) refl)).1) ∙ trimmed-same xs begins ends

-- ---- what stands behind the arrow and its space

pub record RightParts (right : List ℕ) : Type 0 where
  pub some : 0 < length right
  pub text : list_all is_text_byte right ≡ true
  pub signs : list_any is_comment_sign right ≡ false
  pub quotes : list_any is_quote right ≡ false
  pub begins : begins_with_blank right ≡ false
  pub ends : ends_with_blank right ≡ false

-- a test that no byte of the digits in brackets passes
pub none_in_width : (p : ℕ → Bool) → misses_names p ≡ true → list_any p (space ∷ open_bracket ∷ close_bracket ∷ []) ≡ false → (digits : List ℕ) → list_all is_in_names digits ≡ true → list_any p (space ∷ open_bracket ∷ digits ++ close_bracket ∷ []) ≡ false
none_in_width p misses brackets digits in_names =
    let a = or_parts (p space) _ brackets in
    let b = or_parts (p open_bracket) _ a.1 in
    or_from (p space) _ a.0 (or_from (p open_bracket) _ b.0 (any-append p digits (close_bracket ∷ []) (none_in_name p misses digits in_names) b.1))

pub right_bare : (app port : List ℕ) → is_name app ≡ true → is_name port ≡ true → RightParts (end_text app port)
right_bare app port a b = record {
  some = omega (arith, length-append app (point ∷ port));
  text = end_is_text app port a b;
  signs = none_in_end is_comment_sign refl refl app port a b;
  quotes = none_in_end is_quote refl refl app port a b;
  begins = name_begins app (point ∷ port) a;
  ends = end_ends app port b;
}

-- ---- the whole line

pub last_behind : (y : ℕ) (xs : List ℕ) → 0 < length xs → ends_with_blank xs ≡ false → is_blank (get_or (y ∷ xs) (length (y ∷ xs) - 1) 0) ≡ false
last_behind y [] some ends = absurd (omega arith)
last_behind y (c ∷ cs) some ends =
    rw (ends-append (y ∷ []) c cs) (second_fails (ltb 0 (length (c ∷ cs))) (is_blank (get_or (c ∷ cs) (length (c ∷ cs) - 1) 0)) (lt-ltb 0 _ (omega arith)) ends)

abbrev pub joined : List ℕ → List ℕ → List ℕ
joined left right = (left ++ space ∷ []) ++ 45 ∷ 62 ∷ space ∷ right

pub none_joined : (p : ℕ → Bool) (left right : List ℕ) → list_any p (space ∷ 45 ∷ 62 ∷ space ∷ []) ≡ false → list_any p left ≡ false → list_any p right ≡ false → list_any p (joined left right) ≡ false
none_joined p left right arrow a b =
    let x = or_parts (p space) _ arrow in
    let y = or_parts (p 45) _ x.1 in
    let z = or_parts (p 62) _ y.1 in
    any-append p (left ++ space ∷ []) (45 ∷ 62 ∷ space ∷ right) (any-append p left (space ∷ []) a (or_from (p space) false x.0 refl))
    (or_from (p 45) _ y.0 (or_from (p 62) _ z.0 (or_from (p space) _ x.0 b)))

pub joined_alone : (app port right : List ℕ) → is_name app ≡ true → is_name port ≡ true → RightParts right → StandsAlone (joined (end_text app port) right)
joined_alone app port right a b r =
    let left : List ℕ = end_text app port in
    let l = right_bare app port a b in
    let signs = none_joined is_comment_sign left right refl l.signs r.signs in
    let quotes = none_joined is_quote left right refl l.quotes r.quotes in
    record {
      text = all-append is_text_byte (left ++ space ∷ []) (45 ∷ 62 ∷ space ∷ right) (all-append is_text_byte left (space ∷ []) l.text refl)
          (and_from (is_text_byte 45) _ refl (and_from (is_text_byte 62) _ refl (and_from (is_text_byte space) _ refl r.text)));
      uncommented = ap (before_comment_after true) (sym (append-nil (joined left right))) ∙ comment-passes true (joined left right) [] signs quotes ∙ append-nil (joined left right);
      begins = ap begins_with_blank (append_assoc left (space ∷ []) (45 ∷ 62 ∷ space ∷ right) ∙ append_assoc app (point ∷ port) (space ∷ 45 ∷ 62 ∷ space ∷ right)) ∙ name_begins app (point ∷ port ++ space ∷ 45 ∷ 62 ∷ space ∷ right) a;
      ends = ap ends_with_blank (sym (append_assoc (left ++ space ∷ []) (45 ∷ 62 ∷ []) (space ∷ right))) ∙ ends_otherwise ((left ++ space ∷ []) ++ 45 ∷ 62 ∷ []) space right (last_behind space right r.some r.ends);
    }

pub left_end : (app port : List ℕ) → is_name app ≡ true → is_name port ≡ true → end_in (end_text app port ++ space ∷ []) ≡ Ok (app, port)
left_end app port a b =
    end_parts (end_text app port ++ space ∷ []) app port
    (trimmed-behind (end_text app port) (ap begins_with_blank (append_assoc app (point ∷ port) (space ∷ [])) ∙ name_begins app (point ∷ port ++ space ∷ []) a) (end_ends app port b)) a b

-- A connection line that is written is read back.
use Rattle.std.proofs.Common.{◌≡◌, ℕ, ◌-◌, Bool, true, false, not, leb, ltb, ◌&&◌, ◌||◌, List, [], ◌∷◌, ◌++◌, length, get_or, Option, Some, None, refl, sym, ap, ◌∙◌, arith, append_assoc}
use Rattle.std.specs.Prelude.{Result, Ok, is_some, codes}
use Rattle.std.specs.Fmt.{decimal}
use Rattle.std.specs.List.{list_any, list_all, before_first}
use Rattle.std.proofs.lemmas.Fmt.{decimal_is_IsNumeral}
use Rattle.std.proofs.lemmas.Bool.{and_parts, and_from, or_from, or_parts, leb-true, true≢false}
use Rattle.std.proofs.lemmas.List.{length-append, append-nil}
use Rattle.std.proofs.lemmas.List.Sums.{AllPass-from_list_all}
use Rattle.music_base.specs.Names.{is_name, is_in_names}
use Rattle.music_base.specs.Blanks.{space, is_blank}
use Rattle.music_base.specs.Times.{point}
use Rattle.text_words.specs.Words.{words}
use Rattle.config_text.specs.declared.arrows.Arrow.TheVariants.{FromSender}
use Rattle.config_text.specs.declared.text_kind.TextKind.{TextKind}
use Rattle.config_text.specs.Bytes.{open_bracket, close_bracket, is_text_byte, is_quote, is_comment_sign, is_equals, is_open_bracket, is_close_bracket}
use Rattle.config_text.specs.Parts.{◌>>=◌, begins_with_blank, ends_with_blank}
use Rattle.config_text.specs.Connections.{AtArrow, split_at_arrow, end_in, RightPart, right_in, width_given, connection_of, connection_at, connection_in, is_width, is_link, end_text, width_text, link_line}
use Rattle.config_text.specs.Contents.{connection, is_setting, content_in, content_of}
use Rattle.config_text.specs.declared.link_text.LinkText.{LinkText}
use Rattle.config_text.specs.declared.link_options.LinkOptions.{LinkOptions}
use Rattle.config_text.specs.Options.{latency_text, buffered_text}
use Rattle.music_base.proofs.FirstPlaces.{before_first-at, after_first-at, before_first-none, after_first-none}
use Rattle.config_text.proofs.Firsts.{before-past, any-append, any-middle, and_false}
use Rattle.config_text.proofs.NameBytes.{misses_names, name_byte_misses, name_parts}
use Rattle.config_text.proofs.Alone.{content_alone, ends_otherwise, name_begins}
use Rattle.config_text.proofs.LinkParts.{LinkParts, link_parts}
use Rattle.config_text.proofs.Dashes.{is_dash, is_less, arrow_at}
use Rattle.config_text.proofs.SettingLine.{all_from_none}
use Rattle.config_text.proofs.OptionWords.{is_option_byte, none_in_option, OptionWord, AreWords, spaced, words_behind, words_spaced}
use Rattle.config_text.proofs.WrittenOptions.{option_words, options_spaced, LawfulOptions, are_option_words, options_read}
use Rattle.config_text.proofs.WrittenEnds.{digits_in_names, width_read, none_in_end, end_ends, end_alone, end_parts, left_end, trimmed-before, RightParts, right_bare, none_in_width, joined, joined_alone, last_behind}

-- ---- the tail: words, each behind a space

none_spaced : (p : ℕ → Bool) → misses_names p ≡ true → p 46 ≡ false → p 61 ≡ false → p space ≡ false → (all : List (List ℕ)) → AreWords all → list_any p (spaced all) ≡ false
none_spaced p misses at_point at_equals at_space [] are = refl
none_spaced p misses at_point at_equals at_space (word ∷ others) are =
    or_from (p space) _ at_space (any-append p word (spaced others) (none_in_option p misses at_point at_equals word are.0.all) (none_spaced p misses at_point at_equals at_space others are.1))

word_ends : (word : List ℕ) → OptionWord word → ends_with_blank word ≡ false
word_ends word is =
    let last : is_option_byte (get_or word (length word - 1) 0) ≡ true = AllPass-from_list_all is_option_byte word is.all (length word - 1) 0 (omega (arith, is.some)) in
    let misses : list_any is_blank (get_or word (length word - 1) 0 ∷ []) ≡ false = none_in_option is_blank refl refl refl (get_or word (length word - 1) 0 ∷ []) (and_from _ _ last refl) in
    rw ((or_parts (is_blank (get_or word (length word - 1) 0)) false misses).0) (and_false (ltb 0 (length word)))

tail_ends : (front word : List ℕ) (others : List (List ℕ)) → OptionWord word → AreWords others → ends_with_blank (front ++ spaced (word ∷ others)) ≡ false
tail_ends front word [] is are =
    ap (λ (l : List ℕ). ends_with_blank (front ++ space ∷ l)) (append-nil word)
    ∙ ends_otherwise front space word (last_behind space word is.some (word_ends word is))
tail_ends front word (next ∷ others) is are =
    ap ends_with_blank (sym (append_assoc front (space ∷ word) (spaced (next ∷ others)))) ∙ tail_ends (front ++ space ∷ word) next others are.0 are.1

-- ---- the width

digits_named : (width : ℕ) → is_width (Some width) ≡ true → list_all is_in_names (decimal width) ≡ true
digits_named width fits =
    let top = leb-true width 65536 (and_parts (leb 1 width) (leb width 65536) fits).1 in
    digits_in_names (decimal width) (decimal_is_IsNumeral width (omega (arith, top))).0.1

none_in_stated : (p : ℕ → Bool) → misses_names p ≡ true → list_any p (space ∷ open_bracket ∷ close_bracket ∷ []) ≡ false → (width : Option ℕ) → is_width width ≡ true → list_any p (width_text width) ≡ false
none_in_stated p misses brackets None fits = refl
none_in_stated p misses brackets (Some width) fits = none_in_width p misses brackets (decimal width) (digits_named width fits)

stated_ends : (app port : List ℕ) (width : Option ℕ) → is_name port ≡ true → ends_with_blank (end_text app port ++ width_text width) ≡ false
stated_ends app port None b = ap ends_with_blank (append-nil (end_text app port)) ∙ end_ends app port b
stated_ends app port (Some width) b =
    ap ends_with_blank (sym (append_assoc (end_text app port) (space ∷ open_bracket ∷ decimal width) (close_bracket ∷ [])))
    ∙ ends_otherwise (end_text app port ++ space ∷ open_bracket ∷ decimal width) close_bracket [] refl

-- ---- the right part

abbrev right_of : List ℕ → List ℕ → Option ℕ → List (List ℕ) → List ℕ
right_of app port width all = end_text app port ++ (width_text width ++ spaced all)

none_in_right : (p : ℕ → Bool) → misses_names p ≡ true → list_any p (46 ∷ 61 ∷ []) ≡ false → list_any p (space ∷ open_bracket ∷ close_bracket ∷ []) ≡ false
    → (app port : List ℕ) (width : Option ℕ) (all : List (List ℕ)) → is_name app ≡ true → is_name port ≡ true → is_width width ≡ true → AreWords all → list_any p (right_of app port width all) ≡ false
none_in_right p misses signs brackets app port width all a b fits are =
    let x = or_parts (p 46) _ signs in
    let y = or_parts (p 61) false x.1 in
    let z = or_parts (p space) _ brackets in
    any-append p (end_text app port) (width_text width ++ spaced all) (none_in_end p misses x.0 app port a b)
    (any-append p (width_text width) (spaced all) (none_in_stated p misses brackets width fits) (none_spaced p misses x.0 y.0 z.0 all are))

right_ends : (app port : List ℕ) (width : Option ℕ) (all : List (List ℕ)) → is_name port ≡ true → AreWords all → ends_with_blank (right_of app port width all) ≡ false
right_ends app port width [] b are = ap (λ (l : List ℕ). ends_with_blank (end_text app port ++ l)) (append-nil (width_text width)) ∙ stated_ends app port width b
right_ends app port width (word ∷ others) b are =
    ap ends_with_blank (sym (append_assoc (end_text app port) (width_text width) (spaced (word ∷ others)))) ∙ tail_ends (end_text app port ++ width_text width) word others are.0 are.1

right_parts : (app port : List ℕ) (width : Option ℕ) (all : List (List ℕ)) → is_name app ≡ true → is_name port ≡ true → is_width width ≡ true → AreWords all → RightParts (right_of app port width all)
right_parts app port width all a b fits are =
    let tail : List ℕ = width_text width ++ spaced all in
    record {
      some = omega (arith, (right_bare app port a b).some, length-append (end_text app port) tail);
      text = all_from_none is_text_byte (right_of app port width all) (none_in_right (λ c. not (is_text_byte c)) refl refl refl app port width all a b fits are);
      signs = none_in_right is_comment_sign refl refl refl app port width all a b fits are;
      quotes = none_in_right is_quote refl refl refl app port width all a b fits are;
      begins = ap begins_with_blank (append_assoc app (point ∷ port) tail) ∙ name_begins app (point ∷ port ++ tail) a;
      ends = right_ends app port width all b are;
    }

-- the right part as it is cut
record IsCut (right app port : List ℕ) (width : Option ℕ) (all : List (List ℕ)) : Type 0 where
  part : RightPart
  reads : right_in right ≡ Ok part
  end : end_in part.end ≡ Ok (app, port)
  width_is : width_given part.width ≡ Ok width
  words_are : words part.options ≡ all

narrow_cut : (app port : List ℕ) (all : List (List ℕ)) → is_name app ≡ true → is_name port ≡ true → AreWords all → IsCut (right_of app port None all) app port None all
narrow_cut app port all a b are = go all are (any-append is_open_bracket (end_text app port) (spaced all) (none_in_end is_open_bracket refl refl app port a b) (none_spaced is_open_bracket refl refl refl refl all are))
  where
    bare : List ℕ
    bare = end_text app port

    blankless : list_any is_blank bare ≡ false
    blankless = none_in_end is_blank refl refl app port a b

    go : (all : List (List ℕ)) → AreWords all → list_any is_open_bracket (right_of app port None all) ≡ false → IsCut (right_of app port None all) app port None all
    go [] are unopened = record {
      part = record { end = bare; width = None; options = [] };
      reads = ap right_in (append-nil bare) ∙ rw (none_in_end is_open_bracket refl refl app port a b, before_first-none is_blank bare blankless, after_first-none is_blank bare blankless) refl;
      end = end_parts bare app port (end_alone app port a b) a b;
      width_is = refl;
      words_are = words_spaced [] tt;
    }
    go (word ∷ others) are unopened = record {
      part = record { end = bare; width = None; options = word ++ spaced others };
      reads = rw (unopened, before_first-at is_blank bare space (word ++ spaced others) blankless refl, after_first-at is_blank bare space (word ++ spaced others) blankless refl) refl;
      end = end_parts bare app port (end_alone app port a b) a b;
      width_is = refl;
      words_are = words_behind word others are.0 are.1;
    }

wide_cut : (app port : List ℕ) (width : ℕ) (all : List (List ℕ)) → is_name app ≡ true → is_name port ≡ true → is_width (Some width) ≡ true → AreWords all → IsCut (right_of app port (Some width) all) app port (Some width) all
wide_cut app port width all a b fits are =
    let digits : List ℕ = decimal width in
    let named = digits_named width fits in
    let front : List ℕ = end_text app port ++ space ∷ [] in
    let inside : List ℕ = digits ++ close_bracket ∷ spaced all in
    let right : List ℕ = right_of app port (Some width) all in
    let regroup : right ≡ front ++ open_bracket ∷ inside =
    ap (λ (l : List ℕ). end_text app port ++ space ∷ open_bracket ∷ l) (append_assoc digits (close_bracket ∷ []) (spaced all)) ∙ sym (append_assoc (end_text app port) (space ∷ []) (open_bracket ∷ inside)) in
    let clear : list_any is_open_bracket front ≡ false = any-append is_open_bracket (end_text app port) (space ∷ []) (none_in_end is_open_bracket refl refl app port a b) refl in
    let unclosed : list_any is_close_bracket digits ≡ false = none_in_digits digits named in
    record {
      part = record { end = front; width = Some digits; options = spaced all };
      reads = ap right_in regroup ∙ rw (
        any-middle is_open_bracket front open_bracket inside refl,
        after_first-at is_open_bracket front open_bracket inside clear refl,
        before_first-at is_open_bracket front open_bracket inside clear refl,
        any-middle is_close_bracket digits close_bracket (spaced all) refl,
        before_first-at is_close_bracket digits close_bracket (spaced all) unclosed refl,
        after_first-at is_close_bracket digits close_bracket (spaced all) unclosed refl,
      ) refl;
      end = left_end app port a b;
      width_is = rw (width_read width fits) refl;
      words_are = words_spaced all are;
    }
  where
    none_in_digits : (digits : List ℕ) → list_all is_in_names digits ≡ true → list_any is_close_bracket digits ≡ false
    none_in_digits [] all = refl
    none_in_digits (x ∷ xs) all =
        let parts = and_parts (is_in_names x) (list_all is_in_names xs) all in
        or_from (is_close_bracket x) _ (name_byte_misses is_close_bracket refl x parts.0) (none_in_digits xs parts.1)

right_cut : (app port : List ℕ) (width : Option ℕ) (all : List (List ℕ)) → is_name app ≡ true → is_name port ≡ true → is_width width ≡ true → AreWords all → IsCut (right_of app port width all) app port width all
right_cut app port None all a b fits are = narrow_cut app port all a b are
right_cut app port (Some width) all a b fits are = wide_cut app port width all a b fits are

-- ---- the whole line

-- a line that begins as a name does, and has an arrow before its first '=', is a connection
begins_connection : (name rest : List ℕ) → is_name name ≡ true → is_some (split_at_arrow (before_first is_equals (name ++ rest))) ≡ true
    → content_in (name ++ rest) ≡ (connection_in (name ++ rest) >>= λ link. Ok (connection link))
begins_connection [] rest is arrow_ = absurd (true≢false (sym is))
begins_connection (b ∷ name) rest is arrow_ =
    let first = name_byte_misses is_open_bracket refl b (and_parts (is_in_names b) (list_all is_in_names name) (name_parts (b ∷ name) is).all).0 in
    let setting : is_setting (b ∷ name ++ rest) ≡ false =
    ap (λ (t : Bool). list_any is_equals (b ∷ name ++ rest) && not t) arrow_ ∙ and_false (list_any is_equals (b ∷ name ++ rest)) in
    rw (first, setting) refl

none_in_left : (p : ℕ → Bool) → misses_names p ≡ true → p point ≡ false → p space ≡ false → (app port : List ℕ) → is_name app ≡ true → is_name port ≡ true → list_any p (end_text app port ++ space ∷ []) ≡ false
none_in_left p misses at_point at_space app port a b = any-append p (end_text app port) (space ∷ []) (none_in_end p misses at_point app port a b) (or_from (p space) false at_space refl)

arrow_before_equals : (app port right : List ℕ) → is_name app ≡ true → is_name port ≡ true → is_some (split_at_arrow (before_first is_equals (joined (end_text app port) right))) ≡ true
arrow_before_equals app port right a b =
    let left : List ℕ = end_text app port ++ space ∷ [] in
    let dashless = none_in_left is_dash refl refl refl app port a b in
    let lessless = none_in_left is_less refl refl refl app port a b in
    let clear : list_any is_equals (left ++ 45 ∷ 62 ∷ space ∷ []) ≡ false = any-append is_equals left (45 ∷ 62 ∷ space ∷ []) (none_in_left is_equals refl refl refl app port a b) refl in
    let cut : before_first is_equals (left ++ 45 ∷ 62 ∷ space ∷ right) ≡ left ++ 45 ∷ 62 ∷ space ∷ before_first is_equals right =
    ap (before_first is_equals) (sym (append_assoc left (45 ∷ 62 ∷ space ∷ []) right))
    ∙ before-past is_equals (left ++ 45 ∷ 62 ∷ space ∷ []) right clear
    ∙ append_assoc left (45 ∷ 62 ∷ space ∷ []) (before_first is_equals right) in
    ap (λ (t : List ℕ). is_some (split_at_arrow t)) cut ∙ ap (λ (o : Option AtArrow). is_some o) (arrow_at left (space ∷ before_first is_equals right) dashless lessless)

abbrev cut_at_arrow : List ℕ → List ℕ → AtArrow
cut_at_arrow left right = record { before = left ++ space ∷ []; behind = space ∷ right; arrow = FromSender }

joined_read : (app port right : List ℕ) → is_name app ≡ true → is_name port ≡ true → RightParts right
    → content_of (joined (end_text app port) right) ≡ (connection_of (cut_at_arrow (end_text app port) right) >>= λ link. Ok (connection link))
joined_read app port right a b r =
    let left : List ℕ = end_text app port in
    let regroup : joined left right ≡ app ++ (point ∷ port ++ space ∷ 45 ∷ 62 ∷ space ∷ right) = append_assoc left (space ∷ []) (45 ∷ 62 ∷ space ∷ right) ∙ append_assoc app (point ∷ port) (space ∷ 45 ∷ 62 ∷ space ∷ right) in
    let has_arrow : is_some (split_at_arrow (before_first is_equals (app ++ (point ∷ port ++ space ∷ 45 ∷ 62 ∷ space ∷ right)))) ≡ true =
    ap (λ (t : List ℕ). is_some (split_at_arrow (before_first is_equals t))) (sym regroup) ∙ arrow_before_equals app port right a b in
    content_alone (joined left right) (joined_alone app port right a b r)
    ∙ ap content_in regroup ∙ begins_connection app _ a has_arrow ∙ ap (λ (t : List ℕ). connection_in t >>= λ link. Ok (connection link)) (sym regroup)
    ∙ ap (λ (o : Option AtArrow). connection_at o >>= λ link. Ok (connection link))
    (arrow_at (left ++ space ∷ []) (space ∷ right) (none_in_left is_dash refl refl refl app port a b) (none_in_left is_less refl refl refl app port a b))

-- ---- the connection

abbrev options_of : LinkText → LinkOptions
options_of link = record { latency = link.latency; buffered = link.buffered }

abbrev words_of : LinkText → List (List ℕ)
words_of link = option_words (options_of link)

abbrev tail_of : LinkText → List ℕ
tail_of link = right_of link.to_app link.to_port link.width (words_of link)

between_read : (link : LinkText) → LinkParts link → connection_of (cut_at_arrow (end_text link.from_app link.from_port) (tail_of link)) ≡ Ok link
between_read link p =
    let lawful : LawfulOptions (options_of link) = record { latency = p.latency; buffered = p.buffered } in
    let are = are_option_words (options_of link) lawful in
    let r = right_parts link.to_app link.to_port link.width (words_of link) p.to_app p.to_port p.width are in
    let c = right_cut link.to_app link.to_port link.width (words_of link) p.to_app p.to_port p.width are in
    let quotes : (list_any is_quote (end_text link.from_app link.from_port ++ space ∷ []) || list_any is_quote (space ∷ tail_of link)) ≡ false =
    or_from _ _ (none_in_left is_quote refl refl refl link.from_app link.from_port p.from_app p.from_port) r.quotes in
    rw (
      quotes,
      trimmed-before (tail_of link) r.begins r.ends,
      c.reads,
      left_end link.from_app link.from_port p.from_app p.from_port,
      c.end,
      c.width_is,
      options_read (options_of link) c.part.options lawful c.words_are,
    ) refl

-- the line, as what stands on both sides of the arrow
line_joined : (link : LinkText) → link_line link ≡ joined (end_text link.from_app link.from_port) (tail_of link)
line_joined link =
    let left : List ℕ = end_text link.from_app link.from_port in
    let right : List ℕ = end_text link.to_app link.to_port in
    let width : List ℕ = width_text link.width in
    let front : List ℕ = left ++ codes " -> " in
    let e : latency_text link.latency ++ buffered_text link.buffered ≡ spaced (words_of link) = options_spaced (options_of link) in
    append_assoc (front ++ right ++ width) (latency_text link.latency) (buffered_text link.buffered)
    ∙ ap (λ (l : List ℕ). front ++ right ++ width ++ l) e
    ∙ append_assoc (front ++ right) width (spaced (words_of link))
    ∙ append_assoc front right (width ++ spaced (words_of link))
    ∙ ap (λ (l : List ℕ). l ++ (right ++ (width ++ spaced (words_of link)))) (sym (append_assoc left (space ∷ []) (45 ∷ 62 ∷ space ∷ [])))
    ∙ append_assoc (left ++ space ∷ []) (45 ∷ 62 ∷ space ∷ []) (right ++ (width ++ spaced (words_of link)))

tail_parts : (link : LinkText) → LinkParts link → RightParts (tail_of link)
tail_parts link p = right_parts link.to_app link.to_port link.width (words_of link) p.to_app p.to_port p.width (are_option_words (options_of link) (record { latency = p.latency; buffered = p.buffered }))

pub link_read : (link : LinkText) → is_link link ≡ true → content_of (link_line link) ≡ Ok (connection link)
link_read link lawful =
    let p = link_parts link lawful in
    ap content_of (line_joined link)
    ∙ joined_read link.from_app link.from_port (tail_of link) p.from_app p.from_port (tail_parts link p)
    ∙ ap (λ (r : Result LinkText TextKind). r >>= λ l. Ok (connection l)) (between_read link p)

pub link_is_text : (link : LinkText) → is_link link ≡ true → list_all is_text_byte (link_line link) ≡ true
link_is_text link lawful =
    let p = link_parts link lawful in
    ap (list_all is_text_byte) (line_joined link) ∙ (joined_alone link.from_app link.from_port (tail_of link) p.from_app p.from_port (tail_parts link p)).text

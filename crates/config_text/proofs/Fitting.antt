-- What a line is read as is lawful.
use Rattle.std.proofs.Common.{◌≡◌, ℕ, Bool, true, false, not, ◌&&◌, ◌||◌, List, [], ◌∷◌, refl}
use Rattle.std.specs.Prelude.{⊤, Result, Ok, Err, Option, Some, None, if◌then◌else◌}
use Rattle.std.specs.List.{list_any, list_all, before_first, after_first}
use Rattle.std.specs.Option.{ok_or}
use Rattle.std.specs.Str.Parse.{digits_value}
use Rattle.std.specs.Int.{is_in_range}
use Rattle.std.proofs.lemmas.Bool.{and_parts, and_from}
use Rattle.music_base.specs.Names.{is_name}
use Rattle.config_text.specs.declared.text_kind.TextKind.{TextKind}
use Rattle.config_text.specs.declared.text_kind.TextKind.TheVariants.{BadOption}
use Rattle.music_base.specs.Times.{is_point}
use Rattle.config_text.specs.Bytes.{close_bracket, is_quote, is_equals, is_open_bracket, is_close_bracket, is_text_byte}
use Rattle.config_text.specs.Parts.{◌>>=◌, without_cr, before_comment, trimmed, ends_in, between_ends, name_in, is_value}
use Rattle.music_base.specs.Counts.{is_count}
use Rattle.config_text.specs.declared.arrows.Arrow.{Arrow}
use Rattle.config_text.specs.declared.arrows.Arrow.TheVariants.{FromSender, FromReceiver}
use Rattle.config_text.specs.declared.link_options.LinkOptions.{LinkOptions}
use Rattle.config_text.specs.Connections.{AtArrow, split_at_arrow, end_in, width_in, most_width, right_in, width_given, link_between, directed, connection_of, connection_at, connection_in, is_width, is_link}
use Rattle.config_text.specs.Options.{options_in, is_latency, is_buffered}
use Rattle.config_text.specs.Contents.{Content, section, setting, connection, is_quoted, value_in, section_in, is_setting, setting_in, content_in, content_of, is_lawful}
use Rattle.config_text.proofs.ReadOptions.{options_lawful}
use Rattle.config_text.proofs.TextBytes.{list_all-drop, text-trimmed, quoted_value, plain_value}

-- what is read, if something is, obeys the law
abbrev pub Reads : {X : Type 0} → (X → Bool) → Result X TextKind → Type 0
Reads law (Ok x) = law x ≡ true
Reads law (Err kind) = ⊤

reads-then : {A B : Type 0} (law : A → Bool) (next : B → Bool) (r : Result A TextKind) (f : A → Result B TextKind) → Reads law r → ((x : A) → law x ≡ true → Reads next (f x)) → Reads next (r >>= f)
reads-then law next (Ok x) f first second = second x first
reads-then law next (Err kind) f first second = tt

reads-if : {A : Type 0} (law : A → Bool) (t : Bool) (a b : Result A TextKind) → (t ≡ true → Reads law a) → (t ≡ false → Reads law b) → Reads law (if t then a else b)
reads-if law true a b yes_ no_ = yes_ refl
reads-if law false a b yes_ no_ = no_ refl

reads-name : (text : List ℕ) → Reads is_name (name_in text)
reads-name text = reads-if is_name (is_name (trimmed text)) _ _ (λ is. is) (λ is. tt)

reads-value : (text : List ℕ) → list_all is_text_byte text ≡ true → Reads is_value (value_in text)
reads-value text all =
    let raw = trimmed text in
    reads-if is_value (is_quoted raw) _ _ (λ quoted. quoted_value raw (text-trimmed text all) quoted)
    (λ bare. reads-if is_value (list_any is_quote raw) _ _ (λ some. tt) (λ none. plain_value raw (text-trimmed text all) none))

reads-section : (content : List ℕ) → Reads is_lawful (section_in content)
reads-section content =
    reads-if is_lawful (ends_in close_bracket content) _ _
    (λ closed. reads-then is_name is_lawful (name_in (between_ends content)) (λ name. Ok (section name)) (reads-name (between_ends content)) (λ name is. is))
    (λ open_. tt)

reads-setting : (content : List ℕ) → list_all is_text_byte content ≡ true → Reads is_lawful (setting_in content)
reads-setting content all =
    reads-then is_name is_lawful (name_in (before_first is_equals content)) _ (reads-name (before_first is_equals content))
    (λ name is. reads-then is_value is_lawful (value_in (after_first is_equals content)) (λ value. Ok (setting name value))
    (reads-value (after_first is_equals content) (list_all-drop is_text_byte _ content all)) (λ value fits. and_from (is_name name) (is_value value) is fits))

are_names : List ℕ × List ℕ → Bool
are_names names = is_name names.0 && is_name names.1

reads-end : (text : List ℕ) → Reads are_names (end_in text)
unfolding are_names
reads-end text = reads-if are_names (is_name (before_first is_point (trimmed text)) && is_name (after_first is_point (trimmed text))) _ _ (λ is. is) (λ is. tt)

reads-width : (text : List ℕ) → Reads (λ width. is_width (Some width)) (width_in text)
reads-width text =
    let count = trimmed text in
    reads-if (λ width. is_width (Some width)) (is_count count && is_in_range 1 most_width (digits_value 10 count)) _ _ (λ is. (and_parts (is_count count) _ is).1) (λ is. tt)

reads-given : (text : Option (List ℕ)) → Reads is_width (width_given text)
reads-given None = refl
reads-given (Some text) = reads-then (λ width. is_width (Some width)) is_width (width_in text) (λ width. Ok (Some width)) (reads-width text) (λ width fits. fits)

abbrev are_lawful : LinkOptions → Bool
are_lawful options = is_latency options.latency && is_buffered options.buffered

reads-options : (text : List ℕ) → Reads are_lawful (ok_or (options_in text) BadOption)
reads-options text = go (options_in text) refl
  where
    go : (o : Option LinkOptions) → options_in text ≡ o → Reads are_lawful (ok_or o BadOption)
    go None is = tt
    go (Some options) is = let o = options_lawful text options is in and_from _ _ o.latency o.buffered

link_is : (from to : List ℕ × List ℕ) (width : Option ℕ) (options : LinkOptions) → are_names from ≡ true → are_names to ≡ true → is_width width ≡ true → are_lawful options ≡ true
    → is_link (link_between from to width options) ≡ true
unfolding are_names
link_is from to width options a b fits lawful =
    let f = and_parts (is_name from.0) (is_name from.1) a in
    let t = and_parts (is_name to.0) (is_name to.1) b in
    let o = and_parts (is_latency options.latency) (is_buffered options.buffered) lawful in
    and_from _ _ (and_from _ _ (and_from _ _ (and_from _ _ (and_from _ _ (and_from _ _ f.0 f.1) t.0) t.1) fits) o.0) o.1

directed_is : (arrow : Arrow) (left right : List ℕ × List ℕ) (width : Option ℕ) (options : LinkOptions) → are_names left ≡ true → are_names right ≡ true → is_width width ≡ true → are_lawful options ≡ true
    → is_link (directed arrow left right width options) ≡ true
directed_is FromSender left right width options a b fits lawful = link_is left right width options a b fits lawful
directed_is FromReceiver left right width options a b fits lawful = link_is right left width options b a fits lawful

reads-right : (right : List ℕ) → Reads (λ part. true) (right_in right)
reads-right right =
    reads-if (λ part. true) (not (list_any is_open_bracket right)) _ _ (λ bare. refl)
    (λ opens. reads-if (λ part. true) (list_any is_close_bracket (after_first is_open_bracket right)) _ _ (λ closes. refl) (λ unclosed. tt))

reads-cut : (cut : AtArrow) → Reads is_link (connection_of cut)
reads-cut cut =
    reads-if is_link (list_any is_quote cut.before || list_any is_quote cut.behind) _ _ (λ some. tt)
    (λ none. reads-then (λ part. true) is_link (right_in (trimmed cut.behind)) _ (reads-right (trimmed cut.behind))
    (λ part is. reads-then are_names is_link (end_in cut.before) _ (reads-end cut.before)
    (λ left a. reads-then are_names is_link (end_in part.end) _ (reads-end part.end)
    (λ right b. reads-then is_width is_link (width_given part.width) _ (reads-given part.width)
    (λ width fits. reads-then are_lawful is_link (ok_or (options_in part.options) BadOption) (λ options. Ok (directed cut.arrow left right width options)) (reads-options part.options)
    (λ options lawful. directed_is cut.arrow left right width options a b fits lawful))))))

reads-at : (cut : Option AtArrow) → Reads is_link (connection_at cut)
reads-at None = tt
reads-at (Some cut) = reads-cut cut

reads-in : (content : List ℕ) → list_all is_text_byte content ≡ true → Reads is_lawful (content_in content)
reads-in [] all = refl
reads-in (b ∷ bytes) all =
    reads-if is_lawful (is_open_bracket b) _ _ (λ opens. reads-section (b ∷ bytes))
    (λ plain. reads-if is_lawful (is_setting (b ∷ bytes)) _ _ (λ is. reads-setting (b ∷ bytes) all)
    (λ other. reads-then is_link is_lawful (connection_in (b ∷ bytes)) (λ link. Ok (connection link)) (reads-at (split_at_arrow (b ∷ bytes))) (λ link is. is)))

pub reads-content : (line : List ℕ) → Reads is_lawful (content_of line)
reads-content line =
    let visible = before_comment (without_cr line) in
    reads-if is_lawful (list_all is_text_byte visible) _ _ (λ all. reads-in (trimmed visible) (text-trimmed visible all)) (λ other. tt)

pub lawful_content : (line : List ℕ) (content : Content) → content_of line ≡ Ok content → is_lawful content ≡ true
lawful_content line content is = go (content_of line) (reads-content line) is
  where
    go : (r : Result Content TextKind) → Reads is_lawful r → r ≡ Ok content → is_lawful content ≡ true
    go (Ok c) reads e = let same : c ≡ content = cc in rw (← same) reads
    go (Err kind) reads e = absurd cc

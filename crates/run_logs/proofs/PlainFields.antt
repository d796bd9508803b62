-- Fields that no byte sets apart are written as they stand.
use Rattle.std.proofs.Common.{◌≡◌, ◌≢◌, ℕ, ◌<◌, ◌≤◌, Bool, true, false, eqb, leb, ◌&&◌, ◌||◌, List, [], ◌∷◌, ◌++◌, length, refl, sym, ap, ◌∙◌, inl, inr, arith, append-nil, Some, None}
use Rattle.std.specs.List.{list_any, list_all, join_with_byte}
use Rattle.std.specs.Char.{is_ascii_alphanumeric}
use Rattle.std.proofs.lemmas.Bool.{and_parts, or_from, or_cases, leb-true, eqb-true, agree_below_at}
use Rattle.csv.specs.Writing.{default_writer, needs_byte, needs_quotes, field_text, fields_text, row_text, is_blank}
use Rattle.std.specs.Prelude.{Option, unwrap_or}
use Rattle.music_base.specs.Names.{is_in_words}
use Rattle.music_base.specs.Lines.{ended}
use Rattle.scene_model.specs.Logs.{comma}
use Rattle.std.specs.Io.KnownBytes.{Appends}
use Rattle.csv.specs.Writing.{writer_setup, fields_written, has_written, text_written}
use Rattle.csv.specs.declared.writer.Writer.{Writer}
use Rattle.csv.specs.declared.writer.WriterBuilder.{WriterBuilder}
use Rattle.csv.specs.declared.writer.QuoteStyle.TheVariants as style
use Rattle.run_logs.specs.CsvLines.{are_plain, IsAtLineStart, written}

within : (low high b : ℕ) → high < 128 → (leb low b && leb b high) ≡ true → b < 128
within low high b top both = omega (arith, leb-true b high (and_parts (leb low b) (leb b high) both).1)

plain_is_small : (b : ℕ) → is_in_words b ≡ true → b < 128
plain_is_small b plain = elim (or_cases (is_ascii_alphanumeric b || eqb b 95 || eqb b 45) (eqb b 46) plain) [
  | inr point ↦ omega (arith, eqb-true b 46 point)
  | inl first ↦ elim (or_cases (is_ascii_alphanumeric b || eqb b 95) (eqb b 45) first) [
    | inr minus ↦ omega (arith, eqb-true b 45 minus)
    | inl first ↦ elim (or_cases (is_ascii_alphanumeric b) (eqb b 95) first) [
      | inr line ↦ omega (arith, eqb-true b 95 line)
      | inl letter ↦ elim (or_cases ((leb 48 b && leb b 57) || (leb 65 b && leb b 90)) (leb 97 b && leb b 122) letter) [
        | inr lower ↦ within 97 122 b (omega arith) lower
        | inl other ↦ elim (or_cases (leb 48 b && leb b 57) (leb 65 b && leb b 90) other) [
          | inl digit ↦ within 48 57 b (omega arith) digit
          | inr upper ↦ within 65 90 b (omega arith) upper
        ]
      ]
    ]
  ]
]

second_false : (x y : Bool) → x ≡ true → (x && y) ≡ false → y ≡ false
second_false true y first both = both
second_false false y first both = absurd cc

-- no plain byte is set apart: over the bytes below 128 this computes
plain_needs_none : (b : ℕ) → is_in_words b ≡ true → needs_byte default_writer b ≡ false
plain_needs_none b plain =
    second_false (is_in_words b) (needs_byte default_writer b) plain
    (agree_below_at (λ x. is_in_words x && needs_byte default_writer x) (λ x. false) 128 b refl (plain_is_small b plain))

field_needs_none : (field : List ℕ) → list_all is_in_words field ≡ true → needs_quotes default_writer field ≡ false
field_needs_none [] plain = refl
field_needs_none (b ∷ bytes) plain =
    let parts = and_parts (is_in_words b) (list_all is_in_words bytes) plain in
    or_from (needs_byte default_writer b) (list_any (needs_byte default_writer) bytes) (plain_needs_none b parts.0) (field_needs_none bytes parts.1)

field_text-plain : (field : List ℕ) → list_all is_in_words field ≡ true → field_text default_writer field ≡ field
field_text-plain field plain = rw (field_needs_none field plain) refl

fields_text-plain : (field : List ℕ) (fields : List (List ℕ)) → are_plain (field ∷ fields) ≡ true → field ++ fields_text default_writer fields ≡ join_with_byte comma (field ∷ fields)
unfolding fields_text
fields_text-plain field [] plain = append-nil field
fields_text-plain field (next ∷ fields) plain =
    let parts = and_parts (list_all is_in_words field) (are_plain (next ∷ fields)) plain in
    let others = and_parts (list_all is_in_words next) (are_plain fields) parts.1 in
    rw (field_text-plain next others.0) (ap (λ text. field ++ 44 ∷ text) (fields_text-plain next fields parts.1))

pub row_text-plain : (fields : List (List ℕ)) → 2 ≤ length fields → are_plain fields ≡ true → row_text default_writer fields ≡ ended (join_with_byte comma fields)
unfolding is_blank
row_text-plain [] two plain = absurd (omega arith)
row_text-plain (a ∷ []) two plain = absurd (omega arith)
row_text-plain (a ∷ b ∷ fields) two plain =
    let parts = and_parts (list_all is_in_words a) (are_plain (b ∷ fields)) plain in
    rw (field_text-plain a parts.0) (ap ended (fields_text-plain a (b ∷ fields) plain))

-- text and a line behind it
appended : (before after : Option (List ℕ)) (text line : List ℕ) → before ≡ Some text → Appends before after line → after ≡ Some (text ++ line)
appended None after text line is appends = absurd cc
appended (Some xs) None text line is appends = absurd appends
appended (Some xs) (Some ys) text line is appends = let e : xs ≡ text = cc in rw (appends, e) refl

-- the default writer quotes where it is necessary, and not by what is no number
quotes_by_need : {W : Type 0} (writer : Writer W) → writer_setup writer ≡ default_writer → (writer_setup writer).style ≡ style.NonNumeric → ⊥
quotes_by_need writer setup by_number =
    let need : (writer_setup writer).style ≡ style.Necessary = ap (λ (builder : WriterBuilder). builder.style) setup in
    cc

-- a writer that wrote one more line of plain fields
pub record WroteLine {W : Type 0} (contents : W → Option (List ℕ)) (old new : Writer W) (line : List ℕ) : Type 0 where
  pub more : written contents new ≡ written contents old ++ line
  pub start : IsAtLineStart contents new

pub one_more_line : {W : Type 0} (contents : W → Option (List ℕ)) (old new : Writer W) (fields : List (List ℕ))
    → IsAtLineStart contents old → are_plain fields ≡ true → 2 ≤ length fields
    → ((fields_written old ≡ 0) → (has_written old ≡ false) → ((writer_setup old).style ≢ style.NonNumeric) → Appends (text_written contents old) (text_written contents new) (row_text (writer_setup old) fields))
    → writer_setup new ≡ writer_setup old → fields_written new ≡ 0 → has_written new ≡ false
    → WroteLine contents old new (ended (join_with_byte comma fields))
one_more_line contents old new fields was plain two appends setup at_start clean =
    let line : row_text (writer_setup old) fields ≡ ended (join_with_byte comma fields) = rw was.setup (row_text-plain fields two plain) in
    let text : text_written contents new ≡ Some (written contents old ++ ended (join_with_byte comma fields)) =
    appended _ _ (written contents old) (ended (join_with_byte comma fields)) was.told (rw line at (appends was.fields was.clean (quotes_by_need old was.setup))) in
    let more : written contents new ≡ written contents old ++ ended (join_with_byte comma fields) = ap (λ t. unwrap_or t []) text in
    record { more = more; start = record { setup = setup ∙ was.setup; fields = at_start; clean = clean; told = text ∙ ap (λ t. Some t) (sym more) } }

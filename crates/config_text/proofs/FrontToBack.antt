-- Reading line by line: the configuration so far is the one of the lines so far.
use Rattle.std.proofs.Common.{◌≡◌, ℕ, ◌+◌, ◌<◌, ◌≤◌, List, [], ◌∷◌, ◌++◌, length, take, drop, map, get_or, Some, None, refl, sym, ap, ◌∙◌, inl, inr, arith, add-one}
use Rattle.std.specs.Prelude.{Ok}
use Rattle.std.proofs.lemmas.Bool.{cases_lt, cases_eq}
use Rattle.std.proofs.lemmas.List.{take_all, get_or_past, drop-map, length-drop, length-map, drop_more, take_more, get_or_default}
use Rattle.config_text.specs.declared.text_kind.TextKind.{TextKind}
use Rattle.config_text.specs.declared.config.Config.{Config}
use Rattle.config_text.specs.Contents.{blank, content_of}
use Rattle.config_text.specs.Lines.{raw_lines, longest_text}
use Rattle.config_text.specs.Text.{lines, config_of, fault_beside, fault_at, Spells, HasFault, IsFaultOf}
use Rattle.config_text.specs.Inner.{Adds, with_line, OnKind, at_line}
use Rattle.config_text.specs.declared.reading.LineFault.{LineFault}
use Rattle.config_text.specs.declared.reading.LineFault.TheVariants as line_faults
use Rattle.config_text.proofs.OneMore.{config-push}

-- ---- a place in a list

pub record NextOf {X : Type 0} (xs : List X) (i : ℕ) (x : X) (ys : List X) : Type 0 where
  pub first : (d : X) → get_or xs i d ≡ x
  pub passed : take (i + 1) xs ≡ take i xs ++ x ∷ []
  pub rest : drop (i + 1) xs ≡ ys

pub next_of : {X : Type 0} (xs : List X) (i : ℕ) (x : X) (ys : List X) → drop i xs ≡ x ∷ ys → NextOf xs i x ys
next_of {X} xs i x ys e =
    let more : i < length xs = omega (arith, length-drop i xs, ap (length {A = X}) e) in
    let here : get_or xs i x ∷ drop (i + 1) xs ≡ x ∷ ys = sym (drop_more xs i x more) ∙ e in
    let same : get_or xs i x ≡ x = cc in
    record {
      first = λ d. get_or_default xs i d x more ∙ same;
      passed = take_more xs i x more ∙ ap (λ (y : X). take i xs ++ y ∷ []) same;
      rest = cc;
    }

-- ---- the loop

pub record IsReadTo (bytes rest : List ℕ) (line : ℕ) (config : Config) : Type 0 where
  pub place : drop line (raw_lines bytes) ≡ raw_lines rest
  pub is : config ≡ config_of (take line (lines bytes))
  pub faultless : (j : ℕ) → j < line → fault_at (lines bytes) j ≡ None
  pub room : line + length rest ≤ length bytes

pub read_none : (bytes : List ℕ) (config : Config) → config ≡ record { defaults = []; sections = []; links = [] } → IsReadTo bytes bytes 0 config
read_none bytes config none = record { place = refl; is = none; faultless = λ j lt. absurd (omega arith); room = omega arith }

next_line : (bytes rest first others : List ℕ) (line : ℕ) → drop line (raw_lines bytes) ≡ raw_lines rest → raw_lines rest ≡ first ∷ raw_lines others → NextOf (lines bytes) line (content_of first) (map content_of (raw_lines others))
next_line bytes rest first others line place e =
    next_of (lines bytes) line (content_of first) (map content_of (raw_lines others))
    (drop-map content_of line (raw_lines bytes) ∙ ap (map content_of) (place ∙ e))

fault_here : (bytes rest first others : List ℕ) (line : ℕ) (config : Config) → IsReadTo bytes rest line config → raw_lines rest ≡ first ∷ raw_lines others → fault_at (lines bytes) line ≡ fault_beside config (content_of first)
unfolding fault_at
fault_here bytes rest first others line config so_far e =
    let n = next_line bytes rest first others line so_far.place e in
    rw (n.first (Ok blank), ← so_far.is) refl

pub read_on : (bytes rest first others : List ℕ) (line : ℕ) (config new : Config) → IsReadTo bytes rest line config → raw_lines rest ≡ first ∷ raw_lines others → length others < length rest
    → Adds config (content_of first) new → IsReadTo bytes others (line + 1) new
read_on bytes rest first others line config new so_far e fewer adds =
    let n = next_line bytes rest first others line so_far.place e in
    let here = fault_here bytes rest first others line config so_far e in
    record {
      place = (next_of (raw_lines bytes) line first (raw_lines others) (so_far.place ∙ e)).rest;
      is = adds.is ∙ rw (n.passed, config-push (take line (lines bytes)) (content_of first)) (ap (λ c. with_line c (content_of first)) so_far.is);
      faultless = λ j lt. elim (cases_eq j line) [
        | inl same ↦ rw same (here ∙ adds.faultless)
        | inr other ↦ so_far.faultless j (omega arith)
      ];
      room = omega (arith, so_far.room);
    }

pub fault_found : (bytes rest first others : List ℕ) (line : ℕ) (config : Config) (kind : TextKind) → length bytes ≤ longest_text → IsReadTo bytes rest line config → raw_lines rest ≡ first ∷ raw_lines others
    → fault_beside config (content_of first) ≡ Some kind → HasFault bytes (line + 1) kind
fault_found bytes rest first others line config kind short so_far e fault =
    rw add-one (short, fault_here bytes rest first others line config so_far e ∙ fault, so_far.faultless)

pub read_all : (bytes rest : List ℕ) (line : ℕ) (config : Config) → length bytes ≤ longest_text → length rest ≡ 0 → IsReadTo bytes rest line config → Spells config bytes
unfolding raw_lines fault_at
read_all bytes (b ∷ rest) line config short none so_far = absurd (omega arith)
read_all bytes [] line config short none so_far =
    let over : length (lines bytes) ≤ line = omega (arith, length-drop line (raw_lines bytes), ap (length {A = List ℕ}) so_far.place, length-map (raw_lines bytes) content_of) in
    record {
      short = short;
      faultless = λ j. elim (cases_lt j line) [
        | inl lt ↦ so_far.faultless j lt
        | inr ge ↦ rw (get_or_past (lines bytes) j (Ok blank) (omega arith)) refl
      ];
      is = so_far.is ∙ ap config_of (take_all line (lines bytes) over);
    }

pub fault_at_line : (bytes rest first others : List ℕ) (line : ℕ) (config : Config) (fault : LineFault) → length bytes ≤ longest_text → IsReadTo bytes rest line config → raw_lines rest ≡ first ∷ raw_lines others
    → OnKind fault (λ kind. fault_beside config (content_of first) ≡ Some kind) → IsFaultOf bytes (at_line (line + 1) fault)
fault_at_line bytes rest first others line config line_faults.Memory short so_far e h = tt
fault_at_line bytes rest first others line config (line_faults.Fault kind) short so_far e h = fault_found bytes rest first others line config kind short so_far e h

-- The function that reads a time and the rule that tells how times are spelled say the same.
use Rattle.std.proofs.Common.{◌≡◌, ℕ, ◌+◌, ◌*◌, ◌^◌, ◌<◌, ◌≤◌, false, List, length, refl, sym, ◌∙◌, inl, inr}
use Rattle.std.specs.Prelude.{Ok, Err}
use Rattle.std.proofs.lemmas.Bool.{cases_Bool, cases_lt, le-leb}
use Rattle.music_base.specs.declared.times.TimeFault.{TimeFault}
use Rattle.music_base.specs.declared.times.TimeFault.TheVariants.{Spelling, NotWhole, Range}
use Rattle.music_base.specs.Times.{time_value, scaled, in_range, greatest_time, is_time_text, nano_places}
use Rattle.music_base.specs.TimeTexts.{TimeParts, AreParts, SpellsTime, HasTimeFault, number_of, tens_up, tens_down, fraction_digits}
use Rattle.music_base.proofs.Scaling.{scaled-whole, scaled-none, scaled-rest, whole_or_not, rest_not_whole, in_range-beyond}
use Rattle.music_base.proofs.TimeSpelling.{read_as, parts_found}

-- ---- so many nanoseconds, or too many

in_range-within : (n : ℕ) → n ≤ greatest_time → in_range n ≡ Ok n
in_range-within n le = rw (le-leb n greatest_time le) refl

in_range-ok : (m n : ℕ) → in_range m ≡ Ok n → (m ≡ n) × (n ≤ greatest_time)
in_range-ok m n h = elim (cases_lt greatest_time m) [
  | inl beyond ↦ let e : Err Range ≡ Ok n = sym (in_range-beyond m beyond) ∙ h in absurd cc
  | inr within ↦
      let e : Ok m ≡ Ok n = sym (in_range-within m within) ∙ h in
      let same : m ≡ n = cc in
      (same, rw (← same) within)
]

in_range-err : (m : ℕ) (fault : TimeFault) → in_range m ≡ Err fault → (fault ≡ Range) × (greatest_time < m)
in_range-err m fault h = elim (cases_lt greatest_time m) [
  | inl beyond ↦
      let e : Err Range ≡ Err fault = sym (in_range-beyond m beyond) ∙ h in
      let same : fault ≡ Range = cc in
      (same, beyond)
  | inr within ↦ let e : Ok m ≡ Err fault = sym (in_range-within m within) ∙ h in absurd cc
]

-- ---- what scaled answers

-- n is the value
abbrev IsValue : ℕ → ℕ → ℕ → ℕ → Type 0
IsValue d up down n = n * 10 ^ down ≡ d * 10 ^ up

scaled-ok : (d up down n : ℕ) → scaled d up down ≡ Ok n → IsValue d up down n × (n ≤ greatest_time)
scaled-ok d up down n h = elim (whole_or_not d up down) [
  | inl some ↦
      let e : in_range some.0 ≡ Ok n = sym (scaled-whole d up down some.0 some.1) ∙ h in
      let found = in_range-ok some.0 n e in
      (rw (← found.0) some.1, found.1)
  | inr rest ↦ let e : Err NotWhole ≡ Ok n = sym (scaled-rest d up down rest) ∙ h in absurd cc
]

-- why the value is no time
abbrev Misses : ℕ → ℕ → ℕ → TimeFault → Type 0
Misses d up down Spelling = ⊥
Misses d up down NotWhole = (n : ℕ) → IsValue d up down n → ⊥
Misses d up down Range = (n : ℕ) × IsValue d up down n × (greatest_time < n)

misses_range : (d up down n : ℕ) (fault : TimeFault) → fault ≡ Range → IsValue d up down n → greatest_time < n → Misses d up down fault
misses_range d up down n Spelling is value beyond = absurd cc
misses_range d up down n NotWhole is value beyond = absurd cc
misses_range d up down n Range is value beyond = (n, value, beyond)

misses_whole : (d up down : ℕ) (fault : TimeFault) → NotWhole ≡ fault → ((n : ℕ) → IsValue d up down n → ⊥) → Misses d up down fault
misses_whole d up down Spelling is none = absurd cc
misses_whole d up down NotWhole is none = none
misses_whole d up down Range is none = absurd cc

scaled-err : (d up down : ℕ) (fault : TimeFault) → scaled d up down ≡ Err fault → Misses d up down fault
scaled-err d up down fault h = elim (whole_or_not d up down) [
  | inl some ↦
      let found = in_range-err some.0 fault (sym (scaled-whole d up down some.0 some.1) ∙ h) in
      misses_range d up down some.0 fault found.0 some.1 found.1
  | inr rest ↦
      let e : Err NotWhole ≡ Err fault = sym (scaled-rest d up down rest) ∙ h in
      let same : NotWhole ≡ fault = cc in
      misses_whole d up down fault same (λ n. rest_not_whole d up down n rest)
]

-- ---- the value of parts

time_value-parts : (bytes : List ℕ) (parts : TimeParts) → AreParts bytes parts
    → time_value bytes ≡ scaled (number_of parts) (nano_places + tens_up parts.exponent) (length (fraction_digits parts.fraction) + tens_down parts.exponent)
unfolding time_value
time_value-parts bytes parts are =
    let read = read_as bytes parts are in
    rw (read.form, read.digits, read.up, read.down) refl

time_value-no_form : (bytes : List ℕ) → is_time_text bytes ≡ false → time_value bytes ≡ Err Spelling
unfolding time_value
time_value-no_form bytes none = rw none refl

-- ---- from the value to the spelling

pub spelled : (bytes : List ℕ) (n : ℕ) → time_value bytes ≡ Ok n → SpellsTime bytes n × (n ≤ greatest_time)
spelled bytes n h = elim (cases_Bool (is_time_text bytes)) [
  | inl form ↦
      let found = parts_found bytes form in
      let value = scaled-ok _ _ _ n (sym (time_value-parts bytes found.0 found.1) ∙ h) in
      ((found.0, found.1, value.0), value.1)
  | inr none ↦ let e : Err Spelling ≡ Ok n = sym (time_value-no_form bytes none) ∙ h in absurd cc
]

pub valued : (bytes : List ℕ) (n : ℕ) → SpellsTime bytes n × (n ≤ greatest_time) → time_value bytes ≡ Ok n
valued bytes n (spells, within) = time_value-parts bytes spells.0 spells.1 ∙ scaled-whole _ _ _ n spells.2 ∙ in_range-within n within

pub faulted : (bytes : List ℕ) (fault : TimeFault) → HasTimeFault bytes fault → time_value bytes ≡ Err fault
faulted bytes Spelling none = elim (cases_Bool (is_time_text bytes)) [
  | inl form ↦ let found = parts_found bytes form in absurd (none found.0 found.1)
  | inr other ↦ time_value-no_form bytes other
]
faulted bytes NotWhole has = time_value-parts bytes has.0 has.1 ∙ scaled-none _ _ _ has.2
faulted bytes Range has = time_value-parts bytes has.1.0 has.1.1 ∙ scaled-whole _ _ _ has.0 has.1.2 ∙ in_range-beyond has.0 has.2

unspelled : (bytes : List ℕ) → time_value bytes ≡ Err Spelling → (parts : TimeParts) → AreParts bytes parts → ⊥
unspelled bytes h parts are = scaled-err _ _ _ Spelling (sym (time_value-parts bytes parts are) ∙ h)

missed : (bytes : List ℕ) (fault : TimeFault) (parts : TimeParts) → AreParts bytes parts
    → Misses (number_of parts) (nano_places + tens_up parts.exponent) (length (fraction_digits parts.fraction) + tens_down parts.exponent) fault → HasTimeFault bytes fault
missed bytes Spelling parts are misses = absurd misses
missed bytes NotWhole parts are misses = (parts, are, misses)
missed bytes Range parts are misses = (misses.0, (parts, are, misses.1), misses.2)

unformed : (bytes : List ℕ) (fault : TimeFault) → time_value bytes ≡ Err fault → Spelling ≡ fault → HasTimeFault bytes fault
unformed bytes Spelling h same = unspelled bytes h
unformed bytes NotWhole h same = absurd cc
unformed bytes Range h same = absurd cc

pub faulty : (bytes : List ℕ) (fault : TimeFault) → time_value bytes ≡ Err fault → HasTimeFault bytes fault
faulty bytes fault h = elim (cases_Bool (is_time_text bytes)) [
  | inl form ↦
      let found = parts_found bytes form in
      missed bytes fault found.0 found.1 (scaled-err _ _ _ fault (sym (time_value-parts bytes found.0 found.1) ∙ h))
  | inr none ↦
      let e : Err Spelling ≡ Err fault = sym (time_value-no_form bytes none) ∙ h in
      let same : Spelling ≡ fault = cc in
      unformed bytes fault h same
]

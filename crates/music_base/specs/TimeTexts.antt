-- How a time is spelled, as a rule: which parts follow one another, and what they are worth.
use Rattle.std.specs.Prelude.{◌≡◌, ◌⊎◌, ℕ, ◌+◌, ◌*◌, ◌^◌, ◌<◌, ◌≤◌, if◌then◌else◌, List, [], ◌∷◌, ◌++◌, length, Option, Some, None, IfSome, IsTrue}
use Rattle.std.specs.List.{list_all}
use Rattle.std.specs.Char.{is_ascii_digit}
use Rattle.std.specs.Str.Parse.{digits_value, starts_with_minus}
use Rattle.music_base.specs.Times.{point, plus, minus, small_mark, large_mark, nano_places, greatest_time, longest_time_text}
use Rattle.music_base.specs.declared.times.TimeFault.{TimeFault}
use Rattle.music_base.specs.declared.times.TimeFault.TheVariants.{Spelling, NotWhole, Range}

-- ---- the parts

pub record ExponentParts : Type 0 where
  pub mark : ℕ
  pub sign : List ℕ
  pub digits : List ℕ

pub record TimeParts : Type 0 where
  pub whole : List ℕ
  pub fraction : Option (List ℕ)
  pub exponent : Option ExponentParts

-- the bytes of a fraction: a point and its digits
abbrev pub fraction_text : Option (List ℕ) → List ℕ
fraction_text None = []
fraction_text (Some digits) = point ∷ digits

-- the bytes of an exponent: its mark, its sign and its digits
abbrev pub exponent_text : Option ExponentParts → List ℕ
exponent_text None = []
exponent_text (Some e) = e.mark ∷ (e.sign ++ e.digits)

-- the digits of a fraction
abbrev pub fraction_digits : Option (List ℕ) → List ℕ
fraction_digits None = []
fraction_digits (Some digits) = digits

abbrev pub AreDigits : List ℕ → Type 0
AreDigits bytes = IsTrue (list_all is_ascii_digit bytes)

-- 'e' or 'E', optionally '+' or '-', and one to three digits
pub record IsExponent (e : ExponentParts) : Type 0 where
  pub mark : (e.mark ≡ small_mark) ⊎ (e.mark ≡ large_mark)
  pub sign : (e.sign ≡ []) ⊎ (e.sign ≡ plus ∷ []) ⊎ (e.sign ≡ minus ∷ [])
  pub digits : AreDigits e.digits
  pub some : 1 ≤ length e.digits
  pub few : length e.digits ≤ 3

-- The bytes are these parts, one after another: digits, optionally a point and digits, and optionally an exponent.
-- At least one digit stands before the exponent.
pub record AreParts (bytes : List ℕ) (parts : TimeParts) : Type 0 where
  pub text : bytes ≡ parts.whole ++ (fraction_text parts.fraction ++ exponent_text parts.exponent)
  pub short : length bytes ≤ longest_time_text
  pub whole : AreDigits parts.whole
  pub fraction : AreDigits (fraction_digits parts.fraction)
  pub some : 1 ≤ length parts.whole + length (fraction_digits parts.fraction)
  pub exponent : IfSome parts.exponent IsExponent

-- ---- what they are worth

-- the number of all digits before the exponent
abbrev pub number_of : TimeParts → ℕ
number_of parts = digits_value 10 (parts.whole ++ fraction_digits parts.fraction)

-- how many tens an exponent multiplies by
abbrev pub tens_up : Option ExponentParts → ℕ
tens_up None = 0
tens_up (Some e) = if starts_with_minus e.sign then 0 else digits_value 10 e.digits

-- how many tens an exponent divides by
abbrev pub tens_down : Option ExponentParts → ℕ
tens_down None = 0
tens_down (Some e) = if starts_with_minus e.sign then digits_value 10 e.digits else 0

-- Ten to the exponent times the number of seconds, each digit after the point a tenth part, is exactly so many
-- nanoseconds.
abbrev pub IsTimeOf : TimeParts → ℕ → Type 0
IsTimeOf parts nanos =
    nanos * 10 ^ (length (fraction_digits parts.fraction) + tens_down parts.exponent) ≡ number_of parts * 10 ^ (nano_places + tens_up parts.exponent)

-- the bytes spell a time of so many nanoseconds
abbrev pub SpellsTime : List ℕ → ℕ → Type 0
SpellsTime bytes nanos = (parts : TimeParts) × AreParts bytes parts × IsTimeOf parts nanos

-- Why bytes are no time: no parts spell them, parts do and their value is no whole number, or it is too great.
abbrev pub HasTimeFault : List ℕ → TimeFault → Type 0
HasTimeFault bytes Spelling = (parts : TimeParts) → ¬ (AreParts bytes parts)
HasTimeFault bytes NotWhole = (parts : TimeParts) × AreParts bytes parts × ((nanos : ℕ) → ¬ (IsTimeOf parts nanos))
HasTimeFault bytes Range = (nanos : ℕ) × SpellsTime bytes nanos × (greatest_time < nanos)

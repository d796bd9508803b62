-- The nine forms of a rule. Each reads a rule's words from the front, and gives nothing where they have not the form.
use Rattle.std.specs.Prelude.{◌≡◌, ℕ, nat_le, bytes_eq, if◌then◌else◌, List, [], ◌∷◌, ℤ, Option, Some, None, MatchOption, Result, IfOk, codes}
use Rattle.std.specs.List.{before_first, after_first}
use Rattle.std.specs.Option.{option_or}
use Rattle.music_base.specs.Names.{is_word}
use Rattle.music_base.specs.Counts.{count_up_to}
use Rattle.text_words.specs.Numbers.{signed_within, fixed}
use Rattle.text_words.specs.Options.{◌>>=◌, ◌when◌}
use Rattle.text_words.specs.Parts.{is_byte}
use Rattle.text_words.specs.OneWord.{name_in, time_in}
use Rattle.scene_model.specs.Limits.{greatest_shift, greatest_numerator, greatest_denominator, greatest_index}
use Rattle.scene_model.specs.declared.rule.Rule.{Rule}
use Rattle.scene_model.specs.declared.rule.Rule.TheVariants.{EmitAt, EmitEvery, Pass, SetValue, Ramp, CopyValues, When, Say, Reply}

-- ---- what one word spells

-- an INDEX: a COUNT that is a global index
unfoldable pub index_word : List ℕ → Option ℕ
index_word word = count_up_to greatest_index word

-- the shift of an index
unfoldable pub shift_word : List ℕ → Option ℤ
shift_word word = signed_within greatest_shift word

-- '/'
abbrev pub slash : ℕ
slash = 47

-- a scale n/m, one word: a numerator and a denominator of at least 1
unfoldable pub scale_word : List ℕ → Option (ℤ × ℕ)
scale_word word = do
  numerator ← signed_within greatest_numerator (before_first (is_byte slash) word)
  denominator ← count_up_to greatest_denominator (after_first (is_byte slash) word)
  (numerator, denominator) when nat_le 1 denominator

-- the word of a message
unfoldable pub message_word : List ℕ → Option (List ℕ)
message_word word = word when is_word word

-- ---- words in turn

-- the words of a rule
abbrev pub Words : Type 0
Words = List (List ℕ)

-- the words after this one
abbrev pub after : List ℕ → Words → Option Words
after key [] = None
after key (word ∷ words) = if bytes_eq word key then Some words else None

-- what the first word spells, and the words after it
abbrev pub first : {A : Type 0} → (List ℕ → Option A) → Words → Option (A × Words)
first spelled [] = None
first spelled (word ∷ words) = spelled word >>= λ x. Some (x, words)

-- what the only word spells: none follows
abbrev pub only : {A : Type 0} → (List ℕ → Option A) → Words → Option A
only spelled (word ∷ []) = spelled word
only spelled _ = None

-- a word, and what the next one spells
unfoldable pub name_after : List ℕ → Words → Option (List ℕ × Words)
name_after key words = after key words >>= first name_in

unfoldable pub time_after : List ℕ → Words → Option (ℕ × Words)
time_after key words = after key words >>= first time_in

unfoldable pub fixed_after : List ℕ → Words → Option (ℤ × Words)
fixed_after key words = after key words >>= first fixed

unfoldable pub shift_after : List ℕ → Words → Option (ℤ × Words)
shift_after key words = after key words >>= first shift_word

unfoldable pub scale_after : List ℕ → Words → Option ((ℤ × ℕ) × Words)
scale_after key words = after key words >>= first scale_word

-- a word, and what the last one spells
unfoldable pub last_time_after : List ℕ → Words → Option ℕ
last_time_after key words = after key words >>= only time_in

unfoldable pub last_fixed_after : List ℕ → Words → Option ℤ
last_fixed_after key words = after key words >>= only fixed

-- ---- the forms, each behind its first word

-- emit PORT INDEX at TIME
unfoldable pub emit_at : Words → Option Rule
emit_at words = do
  port ← first name_in words
  index ← first index_word port.1
  time ← last_time_after (codes "at") index.1
  Some (EmitAt port.0 index.0 time)

-- emit PORT INDEX every EVERY from FIRST
unfoldable pub emit_every : Words → Option Rule
emit_every words = do
  port ← first name_in words
  index ← first index_word port.1
  every ← time_after (codes "every") index.1
  from ← last_time_after (codes "from") every.1
  Some (EmitEvery port.0 index.0 every.0 from)

-- pass INPUT to OUTPUT shift SHIFT after AFTER
unfoldable pub pass : Words → Option Rule
pass words = do
  input ← first name_in words
  output ← name_after (codes "to") input.1
  shift ← shift_after (codes "shift") output.1
  after ← last_time_after (codes "after") shift.1
  Some (Pass input.0 output.0 shift.0 after)

-- set PORT INDEX VALUE
unfoldable pub set_value : Words → Option Rule
set_value words = do
  port ← first name_in words
  index ← first index_word port.1
  value ← only fixed index.1
  Some (SetValue port.0 index.0 value)

-- ramp PORT INDEX from START by BY
unfoldable pub ramp : Words → Option Rule
ramp words = do
  port ← first name_in words
  index ← first index_word port.1
  start ← fixed_after (codes "from") index.1
  by ← last_fixed_after (codes "by") start.1
  Some (Ramp port.0 index.0 start.0 by)

-- copy INPUT to OUTPUT scale NUMERATOR/DENOMINATOR add ADD
unfoldable pub copy_values : Words → Option Rule
copy_values words = do
  input ← first name_in words
  output ← name_after (codes "to") input.1
  scale ← scale_after (codes "scale") output.1
  add ← last_fixed_after (codes "add") scale.1
  Some (CopyValues input.0 output.0 scale.0.0 scale.0.1 add)

-- when INPUT INDEX over OVER emit OUTPUT EMITTED
unfoldable pub when_over : Words → Option Rule
when_over words = do
  input ← first name_in words
  index ← first index_word input.1
  over ← fixed_after (codes "over") index.1
  output ← name_after (codes "emit") over.1
  emitted ← only index_word output.1
  Some (When input.0 index.0 over.0 output.0 emitted)

-- say PORT WORD every EVERY from FIRST
unfoldable pub say : Words → Option Rule
say words = do
  port ← first name_in words
  word ← first message_word port.1
  every ← time_after (codes "every") word.1
  from ← last_time_after (codes "from") every.1
  Some (Say port.0 word.0 every.0 from)

-- reply INPUT to OUTPUT after AFTER
unfoldable pub reply : Words → Option Rule
reply words = do
  input ← first name_in words
  output ← name_after (codes "to") input.1
  after ← last_time_after (codes "after") output.1
  Some (Reply input.0 output.0 after)

-- the rule that the words spell, by the first of them
unfoldable pub rule_in : Words → Option Rule
rule_in [] = None
rule_in (key ∷ words) =
    if bytes_eq key (codes "emit") then option_or (emit_at words) (emit_every words)
    else if bytes_eq key (codes "pass") then pass words
    else if bytes_eq key (codes "set") then set_value words
    else if bytes_eq key (codes "ramp") then ramp words
    else if bytes_eq key (codes "copy") then copy_values words
    else if bytes_eq key (codes "when") then when_over words
    else if bytes_eq key (codes "say") then say words
    else if bytes_eq key (codes "reply") then reply words else None

-- what is read is the rule that is spelled, or nothing where none is; nothing is said of want of memory
abbrev pub IsRead : {E : Type 0} → Option Rule → Option (Result Rule E) → Type 0
IsRead spelled read = MatchOption read (spelled ≡ None) (λ rule. IfOk rule (λ r. spelled ≡ Some r))

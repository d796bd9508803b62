-- The rule that words spell has numbers and words that a text can spell.
use Rattle.std.proofs.Common.{◌≡◌, ℕ, ℤ, Bool, true, false, List, [], ◌∷◌}
use Rattle.std.specs.Prelude.{Option, Some, IfSome, bytes_eq, codes, if◌then◌else◌}
use Rattle.std.specs.Cmp.Derive.{both_true}
use Rattle.music_base.specs.Names.{is_name, is_word}
use Rattle.text_words.specs.Numbers.{fixed}
use Rattle.text_words.specs.OneWord.{name_in, time_in}
use Rattle.scene_model.specs.declared.rule.Rule.{Rule}
use Rattle.app_scripts.specs.Forms.{Words, index_word, shift_word, scale_word, message_word, name_after, time_after, fixed_after, shift_after, scale_after, last_time_after, last_fixed_after, first, only, emit_at, emit_every, pass, set_value, ramp, copy_values, when_over, say, reply, rule_in}
use Rattle.scene_model.specs.Limits.{greatest_shift}
use Rattle.scene_model.specs.Spellable.{is_index, is_time, is_value, lies_within, is_spellable}
use Rattle.text_words.proofs.Options.{IfSome-bind, IfSome-or}
use Rattle.app_scripts.proofs.Steps.{IfSome-first, IfSome-only, IfSome-first_after, IfSome-only_after}
use Rattle.app_scripts.proofs.Spelling.{name_is, index_is, time_is, shift_is, scale_is, message_is, fixed_is, IsScale}

abbrev Fits : Rule → Type 0
Fits rule = is_spellable rule ≡ true

-- what words are to spell
abbrev IsIndex : ℕ → Type 0
IsIndex index = is_index index ≡ true

abbrev IsTime : ℕ → Type 0
IsTime time = is_time time ≡ true

abbrev IsValue : ℤ → Type 0
IsValue value = is_value value ≡ true

-- the same of a word with the words after it
abbrev IsNamed : List ℕ × Words → Type 0
IsNamed p = is_name p.0 ≡ true

abbrev IsIndexed : ℕ × Words → Type 0
IsIndexed p = IsIndex p.0

abbrev IsTimed : ℕ × Words → Type 0
IsTimed p = IsTime p.0

abbrev IsValued : ℤ × Words → Type 0
IsValued p = IsValue p.0

abbrev IsShifted : ℤ × Words → Type 0
IsShifted p = lies_within greatest_shift p.0 ≡ true

abbrev IsScaled : (ℤ × ℕ) × Words → Type 0
IsScaled p = IsScale p.0

abbrev IsWorded : List ℕ × Words → Type 0
IsWorded p = is_word p.0 ≡ true

-- ---- words in turn

name_after_is : (key : List ℕ) (words : Words) → IfSome (name_after key words) IsNamed
unfolding name_after
name_after_is = IfSome-first_after (λ name. is_name name ≡ true) name_in name_is

name_first_is : (words : Words) → IfSome (first name_in words) IsNamed
name_first_is = IfSome-first (λ name. is_name name ≡ true) name_in name_is

index_first_is : (words : Words) → IfSome (first index_word words) IsIndexed
index_first_is = IfSome-first IsIndex index_word index_is

message_first_is : (words : Words) → IfSome (first message_word words) IsWorded
message_first_is = IfSome-first (λ message. is_word message ≡ true) message_word message_is

time_after_is : (key : List ℕ) (words : Words) → IfSome (time_after key words) IsTimed
unfolding time_after
time_after_is = IfSome-first_after IsTime time_in time_is

fixed_after_is : (key : List ℕ) (words : Words) → IfSome (fixed_after key words) IsValued
unfolding fixed_after
fixed_after_is = IfSome-first_after IsValue fixed fixed_is

shift_after_is : (key : List ℕ) (words : Words) → IfSome (shift_after key words) IsShifted
unfolding shift_after
shift_after_is = IfSome-first_after (λ shift. lies_within greatest_shift shift ≡ true) shift_word shift_is

scale_after_is : (key : List ℕ) (words : Words) → IfSome (scale_after key words) IsScaled
unfolding scale_after
scale_after_is = IfSome-first_after IsScale scale_word scale_is

last_time_after_is : (key : List ℕ) (words : Words) → IfSome (last_time_after key words) IsTime
unfolding last_time_after
last_time_after_is = IfSome-only_after IsTime time_in time_is

last_fixed_after_is : (key : List ℕ) (words : Words) → IfSome (last_fixed_after key words) IsValue
unfolding last_fixed_after
last_fixed_after_is = IfSome-only_after IsValue fixed fixed_is

last_fixed_is : (words : Words) → IfSome (only fixed words) IsValue
last_fixed_is = IfSome-only IsValue fixed fixed_is

last_index_is : (words : Words) → IfSome (only index_word words) IsIndex
last_index_is = IfSome-only IsIndex index_word index_is

-- ---- the forms

-- each form, step by step
emit_at_is : (words : Words) → IfSome (emit_at words) Fits
unfolding emit_at
emit_at_is words =
    IfSome-bind IsNamed Fits _ _ (name_first_is words) (λ port named.
    IfSome-bind IsIndexed Fits _ _ (index_first_is port.1) (λ index indexed.
    IfSome-bind IsTime Fits _ _ (last_time_after_is (codes "at") index.1) (λ time timed. both_true (both_true named indexed) timed)))

emit_every_is : (words : Words) → IfSome (emit_every words) Fits
unfolding emit_every
emit_every_is words =
    IfSome-bind IsNamed Fits _ _ (name_first_is words) (λ port named.
    IfSome-bind IsIndexed Fits _ _ (index_first_is port.1) (λ index indexed.
    IfSome-bind IsTimed Fits _ _ (time_after_is (codes "every") index.1) (λ every often.
    IfSome-bind IsTime Fits _ _ (last_time_after_is (codes "from") every.1) (λ time timed. both_true (both_true (both_true named indexed) often) timed))))

pass_is : (words : Words) → IfSome (pass words) Fits
unfolding pass
pass_is words =
    IfSome-bind IsNamed Fits _ _ (name_first_is words) (λ input from.
    IfSome-bind IsNamed Fits _ _ (name_after_is (codes "to") input.1) (λ output to.
    IfSome-bind IsShifted Fits _ _ (shift_after_is (codes "shift") output.1) (λ shift near.
    IfSome-bind IsTime Fits _ _ (last_time_after_is (codes "after") shift.1) (λ time timed. both_true (both_true (both_true from to) near) timed))))

set_value_is : (words : Words) → IfSome (set_value words) Fits
unfolding set_value
set_value_is words =
    IfSome-bind IsNamed Fits _ _ (name_first_is words) (λ port named.
    IfSome-bind IsIndexed Fits _ _ (index_first_is port.1) (λ index indexed.
    IfSome-bind IsValue Fits _ _ (last_fixed_is index.1) (λ value valued. both_true (both_true named indexed) valued)))

ramp_is : (words : Words) → IfSome (ramp words) Fits
unfolding ramp
ramp_is words =
    IfSome-bind IsNamed Fits _ _ (name_first_is words) (λ port named.
    IfSome-bind IsIndexed Fits _ _ (index_first_is port.1) (λ index indexed.
    IfSome-bind IsValued Fits _ _ (fixed_after_is (codes "from") index.1) (λ start begun.
    IfSome-bind IsValue Fits _ _ (last_fixed_after_is (codes "by") start.1) (λ by gained. both_true (both_true (both_true named indexed) begun) gained))))

copy_values_is : (words : Words) → IfSome (copy_values words) Fits
unfolding copy_values
copy_values_is words =
    IfSome-bind IsNamed Fits _ _ (name_first_is words) (λ input from.
    IfSome-bind IsNamed Fits _ _ (name_after_is (codes "to") input.1) (λ output to.
    IfSome-bind IsScaled Fits _ _ (scale_after_is (codes "scale") output.1) (λ scale scaled.
    IfSome-bind IsValue Fits _ _ (last_fixed_after_is (codes "add") scale.1) (λ add added. both_true (both_true (both_true (both_true from to) scaled.0) scaled.1) added))))

when_over_is : (words : Words) → IfSome (when_over words) Fits
unfolding when_over
when_over_is words =
    IfSome-bind IsNamed Fits _ _ (name_first_is words) (λ input from.
    IfSome-bind IsIndexed Fits _ _ (index_first_is input.1) (λ index indexed.
    IfSome-bind IsValued Fits _ _ (fixed_after_is (codes "over") index.1) (λ over bound.
    IfSome-bind IsNamed Fits _ _ (name_after_is (codes "emit") over.1) (λ output to.
    IfSome-bind IsIndex Fits _ _ (last_index_is output.1) (λ emitted sent. both_true (both_true (both_true (both_true from indexed) bound) to) sent)))))

say_is : (words : Words) → IfSome (say words) Fits
unfolding say
say_is words =
    IfSome-bind IsNamed Fits _ _ (name_first_is words) (λ port named.
    IfSome-bind IsWorded Fits _ _ (message_first_is port.1) (λ word worded.
    IfSome-bind IsTimed Fits _ _ (time_after_is (codes "every") word.1) (λ every often.
    IfSome-bind IsTime Fits _ _ (last_time_after_is (codes "from") every.1) (λ time timed. both_true (both_true (both_true named worded) often) timed))))

reply_is : (words : Words) → IfSome (reply words) Fits
unfolding reply
reply_is words =
    IfSome-bind IsNamed Fits _ _ (name_first_is words) (λ input from.
    IfSome-bind IsNamed Fits _ _ (name_after_is (codes "to") input.1) (λ output to.
    IfSome-bind IsTime Fits _ _ (last_time_after_is (codes "after") output.1) (λ time timed. both_true (both_true from to) timed)))

-- one form or another
either : (test : Bool) (a b : Option Rule) → IfSome a Fits → IfSome b Fits → IfSome (if test then a else b) Fits
either true a b is_a is_b = is_a
either false a b is_a is_b = is_b

rule_in_is : (words : Words) → IfSome (rule_in words) Fits
unfolding rule_in
rule_in_is [] = tt
rule_in_is (key ∷ words) =
    either (bytes_eq key (codes "emit")) _ _ (IfSome-or Fits _ _ (emit_at_is words) (emit_every_is words))
    (either (bytes_eq key (codes "pass")) _ _ (pass_is words) (either (bytes_eq key (codes "set")) _ _ (set_value_is words)
    (either (bytes_eq key (codes "ramp")) _ _ (ramp_is words) (either (bytes_eq key (codes "copy")) _ _ (copy_values_is words)
    (either (bytes_eq key (codes "when")) _ _ (when_over_is words) (either (bytes_eq key (codes "say")) _ _ (say_is words)
    (either (bytes_eq key (codes "reply")) _ _ (reply_is words) tt)))))))

-- what words spell is a rule that a text can spell
pub is_spellable-rule_in : (words : Words) (rule : Rule) → rule_in words ≡ Some rule → is_spellable rule ≡ true
is_spellable-rule_in words rule is = let fits : IfSome (Some rule) Fits = rw is at (rule_in_is words) in fits

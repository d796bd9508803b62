-- The numbers and words that a rule of a text can have.
use Rattle.std.specs.Prelude.{ℕ, Bool, ◌&&◌, nat_le, ℤ, unsigned_abs}
use Rattle.music_base.specs.Names.{is_name, is_word}
use Rattle.music_base.specs.Times.{greatest_time}
use Rattle.scene_model.specs.Limits.{greatest_shift, greatest_numerator, greatest_denominator, greatest_index, greatest_value}
use Rattle.scene_model.specs.declared.rule.Rule.{Rule}
use Rattle.scene_model.specs.declared.rule.Rule.TheVariants.{EmitAt, EmitEvery, Pass, SetValue, Ramp, CopyValues, When, Say, Reply}

-- a global index
abbrev pub is_index : ℕ → Bool
is_index index = nat_le index greatest_index

-- a time that is read
abbrev pub is_time : ℕ → Bool
is_time time = nat_le time greatest_time

-- within so much of zero
abbrev pub lies_within : ℕ → ℤ → Bool
lies_within most z = nat_le (unsigned_abs z) most

-- a value
abbrev pub is_value : ℤ → Bool
is_value value = lies_within greatest_value value

-- the denominator of a scale
abbrev pub is_denominator : ℕ → Bool
is_denominator n = nat_le 1 n && nat_le n greatest_denominator

-- the rule has numbers and words that a text can spell
abbrev pub is_spellable : Rule → Bool
is_spellable (EmitAt port index time) = is_name port && is_index index && is_time time
is_spellable (EmitEvery port index every first) = is_name port && is_index index && is_time every && is_time first
is_spellable (Pass input output shift after) = is_name input && is_name output && lies_within greatest_shift shift && is_time after
is_spellable (SetValue port index value) = is_name port && is_index index && is_value value
is_spellable (Ramp port index start by) = is_name port && is_index index && is_value start && is_value by
is_spellable (CopyValues input output numerator denominator add) =
    is_name input && is_name output && lies_within greatest_numerator numerator && is_denominator denominator && is_value add
is_spellable (When input index over output emitted) = is_name input && is_index index && is_value over && is_name output && is_index emitted
is_spellable (Say port word every first) = is_name port && is_word word && is_time every && is_time first
is_spellable (Reply input output after) = is_name input && is_name output && is_time after

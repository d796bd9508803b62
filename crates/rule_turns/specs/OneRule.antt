-- What one rule does in a step, once its ports are looked up.
use Rattle.std.specs.Prelude.{ℕ, ◌+◌, Bool, false, ◌==◌, ◌&&◌, not, nat_lt, nat_le, int_lt, if◌then◌else◌, List, [], ◌∷◌, map, ℤ, pos, ◌+ℤ◌, ◌*ℤ◌, Option, None, Some, option_map}
use Rattle.std.specs.List.{flat_map}
use Rattle.music_base.specs.Numbers.{floor_div}
use Rattle.music_base.specs.declared.item.Item.{Item}
use Rattle.music_base.specs.declared.item.Item.TheVariants.{Value}
use Rattle.index_maps.specs.declared.map.PortMap.{PortMap}
use Rattle.scene_model.specs.Tables.{value_in}
use Rattle.scene_model.specs.Turns.{event, message, passed, replied, saturated, times_between}
use Rattle.scene_model.specs.declared.rule.Rule.{Rule}
use Rattle.scene_model.specs.declared.rule.Rule.TheVariants.{EmitAt, EmitEvery, Pass, SetValue, Ramp, CopyValues, When, Say, Reply}

-- the input that a rule reads, and no name where it reads none
abbrev pub source_of : Rule → List ℕ
source_of (Pass input _ _ _) = input
source_of (CopyValues input _ _ _ _) = input
source_of (When input _ _ _ _) = input
source_of (Reply input _ _) = input
source_of _ = []

-- the value of an index in a block, where the block has one
abbrev pub found_value : List Item → ℕ → Option ℤ
found_value [] g = None
found_value (Value global value ∷ items) g = if global == g then Some value else found_value items g
found_value (_ ∷ items) g = found_value items g

-- the value that a `when` rule watches is over its bound
abbrev pub is_over_in : List Item → Rule → Bool
is_over_in items (When _ index over _ _) = int_lt over (value_in items index)
is_over_in items _ = false

-- what a rule emits on an output of this map in a step from one time up to another, where its input reads these items. Of
-- `when` it has to be known whether its value was over in the step before
unfoldable pub emits : PortMap → List Item → ℕ → ℕ → Bool → Rule → List Item
emits output items from to was_over (EmitAt _ index time) = if nat_le from time && nat_lt time to then event index time ∷ [] else []
emits output items from to was_over (EmitEvery _ index every first) = map (event index) (times_between every first from to)
emits output items from to was_over (Pass _ _ shift after) = flat_map (passed output (from + after) shift) items
emits output items from to was_over (When _ index over _ x) = if int_lt over (value_in items index) && not was_over then event x from ∷ [] else []
emits output items from to was_over (Say _ word every first) = map (message word) (times_between every first from to)
emits output items from to was_over (Reply _ _ after) = flat_map (replied (from + after)) items
emits _ _ _ _ _ _ = []

-- a copied value: times the numerator, by the denominator and rounded down, and added to
unfoldable pub scaled : ℤ → ℕ → ℤ → ℤ → ℤ
scaled numerator denominator add x = saturated (floor_div (x *ℤ numerator) denominator +ℤ add)

-- the value that is copied for an index, where the block has one
unfoldable pub copied : ℤ → ℕ → ℤ → List Item → ℕ → Option ℤ
copied numerator denominator add items g = option_map (scaled numerator denominator add) (found_value items g)

-- the value that a rule gives index g in the step of this number, where its input reads these items
unfoldable pub gives : List Item → ℕ → Rule → ℕ → Option ℤ
gives items step (SetValue _ index value) g = if index == g then Some value else None
gives items step (Ramp _ index start by) g = if index == g then Some (saturated (start +ℤ by *ℤ pos step)) else None
gives items step (CopyValues _ _ numerator denominator add) g = copied numerator denominator add items g
gives _ _ _ _ = None

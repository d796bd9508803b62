-- A stated limit leaves room for a block.
use Rattle.std.proofs.Common.{◌≤◌, ℕ, arith, Option, None, Some}
use Rattle.std.specs.Prelude.{IfSome}
use Rattle.std.specs.Int.{IsInRange}
use Rattle.std.specs.Option.{option_or}
use Rattle.scene_model.specs.declared.scene.Scene.{Scene}
use Rattle.scene_model.specs.Scenes.{input_of, link_at, output_of}
use Rattle.scene_model.specs.Waits.{at_most, greatest_limit, stated, stated_by}

some_by : (scene : Scene) (c most : ℕ) (a b : Option ℕ) → IfSome a (IsInRange 1 most) → IfSome (at_most greatest_limit (stated_by scene c a b)) (λ m. 1 ≤ m)
some_by scene c most None None is = tt
some_by scene c most (Some a) None is = omega (arith, is)
some_by scene c most None (Some b) is = omega arith
some_by scene c most (Some a) (Some b) is = omega (arith, is)

some_or : (most : ℕ) (own other : Option ℕ) → IfSome own (IsInRange 1 most) → IfSome (at_most greatest_limit other) (λ m. 1 ≤ m) → IfSome (at_most greatest_limit (option_or own other)) (λ m. 1 ≤ m)
some_or most None other is rest = rest
some_or most (Some own) other is rest = omega (arith, is)

-- where the connection states at least one block, or nothing, and its output at least one tick, or nothing
pub stated-some : (scene : Scene) (c most : ℕ) → IfSome (link_at scene c).buffered (IsInRange 1 most) → IfSome (output_of scene c).buffered (IsInRange 1 most) → IfSome (stated scene c) (λ m. 1 ≤ m)
unfolding stated
stated-some scene c most own is =
    some_or most (link_at scene c).buffered _ own (some_by scene c most (output_of scene c).buffered (input_of scene c).buffered is)

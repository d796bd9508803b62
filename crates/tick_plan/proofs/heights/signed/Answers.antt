use Rattle.std.proofs.Common.{◌≡◌, ℕ, ◌≤◌, pos, to_z, map, ap, sym, ◌∙◌, arith}
use Rattle.std.proofs.lemmas.Int.{ints}
use Rattle.std.proofs.lemmas.List.{map_more, take_all}
use mir.Syntax.{w128}
use Rattle.tick_plan.specs.Bounds.{greatest_height}
use Rattle.tick_plan.proofs.heights.signed.Goals as goal

-- a height as the code casts it
cast_is : (height : ℕ) → height ≤ greatest_height → to_z w128 height ≡ pos height
cast_is height low = omega (arith, ints)

pub loop-height-preserved : goal.loop-height-preserved
loop-height-preserved c =
    let low = c.requires c.loop-height.height-index 0 c.loop-height-test.true in
    rw (c.in_ok-push.ensures.items, c.loop-height.invariant, cast_is _ low) (sym (map_more pos c.args.heights.now c.loop-height.height-index 0 c.loop-height-test.true))

pub returns : goal.returns
returns c = c.loop-height.invariant ∙ ap (map pos) (take_all c.loop-height.height-index c.args.heights.now c.loop-height-test.false)

use Rattle.std.proofs.Common.{arith, rules, ◌≡◌}
use Rattle.std.specs.Prelude.{pos, ◌*ℤ◌}
use Rattle.std.specs.Int.{int_div_euclid}
use Rattle.std.proofs.lemmas.Int.{ints, to_z-of_z}
use mir.Val.{SFits, of_z, to_z}
use mir.Syntax.{w128}
use Rattle.music_base.specs.Numbers.{floor_div, floor_to}
use Rattle.music_base.proofs.Rounding.{floor_to-le, floor_to-near}
use Rattle.music_base.proofs.arithmetic.floor_to.Goals as goal

pub returns-clause-value : goal.returns-clause-value
unfolding floor_to
returns-clause-value c =
    let g : to_z w128 c.g.inside.0 ≡ pos c.args.g = omega (arith, ints) in
    let x : to_z w128 (of_z w128 c.args.x) ≡ c.args.x = omega (arith, ints) in
    let q : to_z w128 (of_z w128 c.div_euclid.result) ≡ c.div_euclid.result = omega (arith, ints) in
    let d : c.div_euclid.result ≡ int_div_euclid c.args.x (pos c.args.g) = rw (x, g) at c.div_euclid.ensures in
    let fits : SFits w128 (int_div_euclid c.args.x (pos c.args.g) *ℤ pos c.args.g) = search rules in
    rw (q, g, d) (to_z-of_z w128 _ fits)

pub returns-clause-multiple : goal.returns-clause-multiple
unfolding floor_to
returns-clause-multiple c = (floor_div c.args.x c.args.g, returns-clause-value c)

pub returns-clause-at_most : goal.returns-clause-at_most
returns-clause-at_most c = rw (returns-clause-value c) (floor_to-le c.args.g c.args.x c.requires.g)

pub returns-clause-near : goal.returns-clause-near
returns-clause-near c = rw (returns-clause-value c) (floor_to-near c.args.g c.args.x c.requires.g)

-- Going through both is covering.
use Rattle.std.proofs.Common.{rules, ◌≡◌, false, ◌∙◌}
use Rattle.port_match.proofs.Intervals.{covered, covered-none, covered_holds}
use Rattle.port_match.proofs.covering.covers.Goals as goal

pub returns-then-not-is_in_first : goal.returns-then-not-is_in_first
returns-then-not-is_in_first c =
    let stops : false ≡ covered c.args.outputs.now c.args.inputs.now = search rules in
    stops ∙ covered_holds c.args.outputs.now c.args.inputs.now c.requires.outputs c.requires.inputs

pub returns : goal.returns
returns c =
    covered-none c.loop-input.rest.now c.loop-input.left.now c.in_default.ensures.cases
    ∙ (c.loop-input.invariant ∙ covered_holds c.args.outputs.now c.args.inputs.now c.requires.outputs c.requires.inputs)

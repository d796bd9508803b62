use Rattle.std.proofs.Common.{◌≡◌, ◌∙◌, List, ap, sym, length, get_or, arith}
use Rattle.rule_turns.specs.Plans.{indices_of, turn_plan}
use Rattle.rule_turns.specs.declared.plan.PortUses.{PortUses}
use Rattle.rule_turns.specs.declared.plan.TurnPlan.{TurnPlan}
use Rattle.part_tests.proofs.Shapes.{indices-uses, length-uses}
use Rattle.part_tests.proofs.turns.inputs.Goals as goal

pub bounds-uses-p : goal.bounds-uses-p
bounds-uses-p c =
    let uses : c.as_slice-uses.result.now ≡ (turn_plan c.args.ports.now c.args.rules.now).ports = c.as_slice-uses.ensures ∙ ap (λ (plan : TurnPlan). plan.ports) c.requires in
    let size : length c.as_slice-uses.result.now ≡ length c.args.ports.now = ap (λ (us : List PortUses). length us) uses ∙ length-uses c.args.ports.now c.args.rules.now in
    omega (arith, size, c.loop-p-test.true)

pub read-requires : goal.read-requires
read-requires c =
    let p = c.loop-p.p in
    let d = c.index-uses-p.result in
    let e = c.index-ports-p.result in
    let uses : c.as_slice-uses.result.now ≡ (turn_plan c.args.ports.now c.args.rules.now).ports = c.as_slice-uses.ensures ∙ ap (λ (plan : TurnPlan). plan.ports) c.requires in
    ap (λ (us : PortUses). us.indices) c.index-uses-p.is
    ∙ ap (λ (all : List PortUses). (get_or all p d).indices) uses
    ∙ indices-uses c.args.ports.now c.args.rules.now p d e c.loop-p-test.true
    ∙ ap indices_of (sym c.index-ports-p.is)

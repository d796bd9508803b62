use Rattle.step_core.specs.Running.{Went}
use Rattle.step_core.proofs.Going.{went_some, went_still, went_then}
use Rattle.step_core.proofs.scene_core.Core.turn.Goals as goal

pub returns-then-not-branch : goal.returns-then-not-branch
returns-then-not-branch c =
    went_still c.args.self.now _ c.exchange.new.self c.run_one.new.self
    (went_then c.args.self.now c.loop.acted c.loop.self c.in_ok-acted.field-0 c.exchange.new.self c.loop.invariant c.in_ok-acted.ensures)
    (rw c.if-not-branch.true at c.in_ok-run_one.ensures)

pub loop-preserved : goal.loop-preserved
loop-preserved c =
    went_some c.args.self.now _ c.exchange.new.self c.run_one.new.self
    (went_then c.args.self.now c.loop.acted c.loop.self c.in_ok-acted.field-0 c.exchange.new.self c.loop.invariant c.in_ok-acted.ensures)
    (rw c.if-not-branch.false at c.in_ok-run_one.ensures)

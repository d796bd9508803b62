use Rattle.std.proofs.Common.{◌∙◌, sym}
use Rattle.event_routes.proofs.LookUp.{found_at, missing_at}
use Rattle.event_routes.proofs.routes.Routes.targets_counted.Goals as goal

pub targets_of-requires-clause-block : goal.targets_of-requires-clause-block
targets_of-requires-clause-block g c =
    (found_at c.self.inside.blocks.items c.self.inside.cuts c.args.global c.in-Some.place c.index.result.now c.index.result.now c.self.invariant.0 c.self.invariant.1.each c.in-Some.ensures.place c.index.ensures).whole

pub targets_of-requires-clause-holds : goal.targets_of-requires-clause-holds
targets_of-requires-clause-holds g c =
    (found_at c.self.inside.blocks.items c.self.inside.cuts c.args.global c.in-Some.place c.index.result.now c.index.result.now c.self.invariant.0 c.self.invariant.1.each c.in-Some.ensures.place c.index.ensures).held

pub returns-in-Some-clause-targets : goal.returns-in-Some-clause-targets
returns-in-Some-clause-targets g c =
    rw (← c.self.view_is) (c.targets_of.ensures ∙ sym (found_at c.self.inside.blocks.items c.self.inside.cuts c.args.global c.in-Some.place c.index.result.now c.index.result.now c.self.invariant.0 c.self.invariant.1.each c.in-Some.ensures.place c.index.ensures).targets)

pub returns-in-None-clause-targets : goal.returns-in-None-clause-targets
returns-in-None-clause-targets g c =
    rw (← c.self.view_is) (missing_at c.self.inside.blocks.items c.self.inside.cuts c.args.global c.self.invariant.0 c.self.invariant.1.each c.in-None.ensures.place)

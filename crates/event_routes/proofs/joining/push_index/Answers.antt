use Rattle.std.proofs.Common.{◌++◌, ◌∷◌, [], sym, ◌∙◌}
use Rattle.event_routes.specs.Blocks.{AreRuns}
use Rattle.event_routes.proofs.Runs.{breaks, last_block, longer, longer_fits}
use Rattle.event_routes.proofs.joining.push_index.Goals as goal

pub begin-requires-then-not-goes_on-clause-breaks : goal.begin-requires-then-not-goes_on-clause-breaks
begin-requires-then-not-goes_on-clause-breaks c =
    let runs : AreRuns (c.pop.new.self.items ++ c.in-Some.block ∷ []) c.args.global = rw c.in-Some.ensures.items at c.requires.runs in
    rw c.in_ok-push.ensures.items (breaks c.pop.new.self.items c.in-Some.block c.args.global c.args.targets.now runs c.requires.some (sym c.goes_on.ensures ∙ c.if-not-goes_on.true))

pub push-requires-2-clause-block : goal.push-requires-2-clause-block
push-requires-2-clause-block c =
    let runs : AreRuns (c.pop.new.self.items ++ c.in-Some.block ∷ []) c.args.global = rw c.in-Some.ensures.items at c.requires.runs in
    last_block c.pop.new.self.items c.in-Some.block c.args.global c.args.targets.now runs c.requires.some

pub push-requires-2-clause-ranks : goal.push-requires-2-clause-ranks
push-requires-2-clause-ranks c =
    let runs : AreRuns (c.pop.new.self.items ++ c.in-Some.block ∷ []) c.args.global = rw c.in-Some.ensures.items at c.requires.runs in
    longer_fits c.pop.new.self.items c.in-Some.block c.args.global c.args.targets.now runs c.requires.some (sym c.goes_on.ensures ∙ c.if-not-goes_on.false)

pub returns-clause-runs : goal.returns-clause-runs
returns-clause-runs c =
    let runs : AreRuns (c.pop.new.self.items ++ c.in-Some.block ∷ []) c.args.global = rw c.in-Some.ensures.items at c.requires.runs in
    let pushed = c.in_ok-push-2.ensures in
    rw c.in_ok-push-3.ensures.items (longer c.pop.new.self.items c.in-Some.block c.args.global c.args.targets.now runs c.requires.some c.push-2.new.self (sym c.goes_on.ensures ∙ c.if-not-goes_on.false) c.requires.limit pushed.block pushed.first pushed.after pushed.routes)

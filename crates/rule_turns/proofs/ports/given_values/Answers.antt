use Rattle.index_maps.specs.Maps.{indices}
use Rattle.index_maps.proofs.Ascending.{indices-ascends}
use Rattle.rule_turns.specs.Turning.{zeros}
use Rattle.rule_turns.proofs.Ascending.{ascending-values, values-zeros}
use Rattle.rule_turns.proofs.ports.given_values.Goals as goal

pub give_uses-requires-clause-ascend : goal.give_uses-requires-clause-ascend
give_uses-requires-clause-ascend c =
    let map = c.args.output.now in
    rw (c.deref_mut.ensures.value, c.in_ok-items.ensures, c.requires.indices) (ascending-values 0 (indices map) (zeros (indices map)) (indices-ascends map) (values-zeros (indices map)))

pub give_uses-requires-clause-placed : goal.give_uses-requires-clause-placed
give_uses-requires-clause-placed c = (c.args.written.now, rw (c.deref_mut.ensures.value, c.in_ok-items.ensures) (values-zeros c.args.written.now), c.requires.placed)

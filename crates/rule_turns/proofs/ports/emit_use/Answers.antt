use Rattle.std.proofs.Common.{◌≡◌, None, slice_get, append-nil, sym}
use Rattle.std.proofs.lemmas.Option.{slice_get_past}
use Rattle.rule_turns.proofs.ports.emit_use.Goals as goal

pub returns-in-None : goal.returns-in-None
returns-in-None c =
    let none : slice_get c.args.step.now.rules.now c.args.part.rule ≡ None = slice_get_past c.args.step.now.rules.now c.args.part.rule c.in-None.ensures.lookup.3 in
    rw none (sym (append-nil c.args.items.now))

use Rattle.scene_model.proofs.Mapped.{mapped_small}
use Rattle.rule_turns.proofs.arrivals.pass_on.Goals as goal

pub emit_mapped-requires : goal.emit_mapped-requires
emit_mapped-requires c = λ g. mapped_small c.args.output.now g c.requires

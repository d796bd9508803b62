use Rattle.std.proofs.Common.{◌≡◌, drop}
use Rattle.scene_model.specs.Tables.{value_in}
use Rattle.port_inbox.proofs.kept_sample.value_among.Given as goal

abbrev pub invariant-loop-item : goal.invariant-loop-item
invariant-loop-item l = value_in l.items l.global ≡ value_in (drop l.item-index l.items) l.global

use Rattle.std.proofs.Common.{◌≡◌, drop}
use Rattle.scene_model.specs.Tables.{value_in}
use Rattle.app_turn.proofs.rows.value_in.Given as goal

abbrev pub invariant-loop-item : goal.invariant-loop-item
invariant-loop-item l = value_in (drop l.item-index l.items) l.index ≡ value_in l.items l.index

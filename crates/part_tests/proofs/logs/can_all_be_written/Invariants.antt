use Rattle.std.proofs.Common.{◌≡◌, take, true}
use Rattle.std.specs.List.{list_all}
use Rattle.scene_model.specs.Logs.{is_writable}
use Rattle.part_tests.proofs.logs.can_all_be_written.Given as goal

abbrev pub invariant-loop-row : goal.invariant-loop-row
invariant-loop-row l = list_all (is_writable l.scene) (take l.row-index l.rows) ≡ true

use Rattle.std.proofs.Common.{◌≡◌, ◌+◌, length, take}
use Rattle.std.specs.List.{flat_map}
use Rattle.scene_model.specs.Logs.{line_of}
use Rattle.run_logs.proofs.counting.count_lines.Given as goal

abbrev pub invariant-loop-row : goal.invariant-loop-row
invariant-loop-row l = l.sum ≡ l.bytes + length (flat_map (line_of l.scene) (take l.row-index l.rows))

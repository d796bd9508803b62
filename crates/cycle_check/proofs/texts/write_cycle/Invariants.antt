use Rattle.std.proofs.Common.{◌≡◌, ◌++◌, map, take, codes}
use Rattle.std.specs.List.{flat_map}
use Rattle.music_base.specs.Lines.{ended}
use Rattle.cycle_check.specs.CycleTexts.{wait_line}
use Rattle.cycle_check.proofs.texts.write_cycle.Given as goal

abbrev pub invariant-loop-wait : goal.invariant-loop-wait
invariant-loop-wait l = l.text.items ≡ ended (codes "uncovered cycle") ++ flat_map (λ w. ended (wait_line (map (λ name. name.now) l.names) w)) (take l.wait-index l.waits)

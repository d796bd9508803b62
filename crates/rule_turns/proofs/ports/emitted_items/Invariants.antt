use Rattle.std.proofs.Common.{◌≡◌, take}
use Rattle.std.specs.List.{flat_map}
use Rattle.rule_turns.specs.Turning.{seen, use_emits}
use Rattle.rule_turns.proofs.ports.emitted_items.Given as goal

abbrev pub invariant-loop-part : goal.invariant-loop-part
invariant-loop-part l = l.items ≡ flat_map (use_emits (seen l.step) l.output) (take l.part-index l.uses)

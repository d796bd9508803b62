use Rattle.std.proofs.Common.{◌≡◌, ◌++◌, take}
use Rattle.std.specs.List.{flat_map}
use Rattle.music_base.specs.Lines.{ended}
use Rattle.config_text.specs.Canon.{section_lines}
use Rattle.config_text.proofs.writing.put_sections.Given as goal

abbrev pub invariant-loop-place : goal.invariant-loop-place
invariant-loop-place l = l.out.items ≡ l.initial.out.items ++ flat_map ended (flat_map section_lines (take l.place l.sections))

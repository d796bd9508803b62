use Rattle.std.proofs.Common.{◌≡◌, ◌++◌, map, take}
use Rattle.std.specs.List.{flat_map}
use Rattle.music_base.specs.Lines.{ended}
use Rattle.config_text.specs.Connections.{link_line}
use Rattle.config_text.proofs.writing.put_links.Given as goal

abbrev pub invariant-loop-link : goal.invariant-loop-link
invariant-loop-link l = l.out.items ≡ l.initial.out.items ++ flat_map ended (map link_line (take l.link-index l.links))

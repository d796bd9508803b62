use Rattle.std.proofs.Common.{◌≡◌}
use Rattle.std.specs.Prelude.{map, None}
use Rattle.text_words.specs.Options.{first_some}
use Rattle.port_table.specs.MapWords.{rank_repeat}
use Rattle.port_table.specs.Stated.{rank_stated}
use Rattle.port_table.proofs.maps.index_maps.Given as goal

abbrev pub invariant-loop-rank : goal.invariant-loop-rank
invariant-loop-rank l = record {
  maps : l.maps ≡ map rank_stated l.yielded;
  once : first_some rank_repeat l.maps ≡ None;
}

use Rattle.std.proofs.Common.{◌≡◌, ◌∙◌, ap}
use Rattle.std.specs.List.{range_with_len}
use Rattle.index_maps.specs.Indices.{are_indices}
use Rattle.index_maps.proofs.Ranges.{are_indices-range}
use Rattle.index_maps.specs.Maps.{globals_of}
use Rattle.app_turn.proofs.rank_indices.local_by.Goals as goal

pub returns-in-Some-clause-indices : goal.returns-in-Some-clause-indices
returns-in-Some-clause-indices c =
    let span = c.in-Some.span in
    let is : globals_of c.args.ports.now c.args.rank ≡ range_with_len span.base span.size = rw c.in-Some.is at c.requires.span in
    ap are_indices is ∙ are_indices-range span.base span.size c.local_of.ensures.limit

use Rattle.std.proofs.Common.{◌≡◌, ◌∙◌, ap, length, sym}
use Rattle.std.specs.List.{range_with_len}
use Rattle.index_maps.proofs.Ranges.{length_range}
use Rattle.index_maps.specs.Maps.{globals_of}
use Rattle.app_turn.proofs.rank_indices.size_by.Goals as goal

pub returns-in-Some : goal.returns-in-Some
returns-in-Some c =
    let span = c.in-Some.span in
    let is : globals_of c.args.ports.now c.args.rank ≡ range_with_len span.base span.size = rw c.in-Some.is at c.requires.span in
    c.size.ensures.size ∙ sym (ap length is ∙ length_range span.base span.size)

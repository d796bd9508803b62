use Rattle.std.proofs.Common.{◌≡◌, ◌∙◌, ap, sym, true}
use Rattle.std.specs.Prelude.{◌==◌, is_some}
use Rattle.std.specs.List.{list_any}
use Rattle.index_maps.proofs.Positions.{place_some}
use Rattle.index_maps.specs.Maps.{globals_of}
use Rattle.app_turn.proofs.ByRank.{no_other}
use Rattle.app_turn.proofs.by_rank.rank_in_split.Goals as goal

pub returns-in_ok-local_at-in-Split-clause-only : goal.returns-in_ok-local_at-in-Split-clause-only
returns-in_ok-local_at-in-Split-clause-only c = λ r small side.
    let rank = c.likely_rank-rank.result in
    let globals = globals_of c.args.map.now rank in
    let has : list_any (λ i. i == c.args.global) globals ≡ true = sym (place_some c.args.global globals) ∙ ap is_some (sym c.in_ok-local_at-in-Split.ensures.place) in
    rw c.in-Split.is (no_other c.in-Split.span c.in-Split.ranks rank r c.args.global c.if-ranks-gt0.true (rw c.in-Split.is at has) side)

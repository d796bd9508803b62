use Rattle.std.proofs.Common.{[], ◌∷◌, refl, rules, ◌∙◌}
use Rattle.std.proofs.lemmas.List.{map-append}
use Rattle.std.proofs.lemmas.Iterator.Adapters.{YieldsList-from_vec}
use Rattle.std.proofs.lemmas.Iterator.Consumers.{YieldsList-so_far, YieldsList-turn}
use Rattle.port_table.specs.Stated.{rank_stated}
use Rattle.port_table.proofs.Repeating.{once_on, repeat_at}
use Rattle.port_table.proofs.maps.index_maps.Goals as goal

pub returns-in_err-map-clause-fault : goal.returns-in_err-map-clause-fault
returns-in_err-map-clause-fault c =
    let gives = c.into_iter-rank-iterator.ensures.into_iter_gives in
    let all = YieldsList-from_vec {s = c.into_iter-rank-iterator.result} c.args.ranks.items gives.0 (gives.1 ∙ c.args.ranks.ok.0) in
    let front = YieldsList-so_far all c.loop-rank.yielded c.loop-rank.rank-iterator c.loop-rank.yielded_by in
    let place = YieldsList-turn all c.loop-rank.yielded c.loop-rank.rank-iterator c.loop-rank.yielded_by c.next.result c.next.new.self c.in-Some.rank c.in-Some.is c.next.ensures.steps in
    let once = rw c.loop-rank.invariant.maps at c.loop-rank.invariant.once in
    let here = repeat_at rank_stated c.args.ranks.items c.loop-rank.yielded c.in-Some.rank c.in_err-map.field-0.0 front place once c.in_err-map.ensures.fault in
    search rules

pub loop-rank-preserved : goal.loop-rank-preserved
loop-rank-preserved c = record {
  maps = rw (c.in_ok-push.ensures.ok, map-append rank_stated c.loop-rank.yielded (c.in-Some.rank ∷ []), c.loop-rank.invariant.maps, c.in_ok-map.ensures.map) refl;
  once = rw c.in_ok-push.ensures.ok (once_on c.loop-rank.maps c.in_ok-map.map c.loop-rank.invariant.once c.in_ok-map.ensures.once);
}

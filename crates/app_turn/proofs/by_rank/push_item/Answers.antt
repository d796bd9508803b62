use Rattle.std.proofs.Common.{◌≡◌, ◌∙◌, [], ap, sym, get_or}
use Rattle.std.proofs.lemmas.List.{get_or_read}
use Rattle.std.proofs.lemmas.Result.{on_ok_weaker}
use Rattle.index_maps.specs.Maps.{globals_of}
use Rattle.scene_model.specs.Logs.{arrived_at}
use Rattle.app_turn.specs.ByRank.{no_item}
use Rattle.app_turn.proofs.ByRank.{one_more, to_one}
use Rattle.app_turn.proofs.by_rank.push_item.Goals as goal

pub returns-in-Some-clause-got : goal.returns-in-Some-clause-got
returns-in-Some-clause-got c =
    let items = c.args.items.now in
    let here : c.index-items-place.result ≡ get_or items c.args.place no_item = get_or_read items c.args.place c.index-items-place.result c.requires.place c.index-items-place.is no_item in
    on_ok_weaker c.push_place.result
    (λ is r small. to_one (globals_of c.args.map.now r) items c.args.lists.now.items c.push_place.new.lists.items c.rank.inside.0 c.args.place r (rw (c.requires.ranks, c.rank.view_is) c.in-Some.ensures.within) is
    (λ side. ap (arrived_at (globals_of c.args.map.now r)) (sym here) ∙ c.in-Some.ensures.only r small (rw c.rank.view_is at side))) c.push_place.ensures

pub returns-in-None-clause-got : goal.returns-in-None-clause-got
returns-in-None-clause-got c =
    on_ok_weaker c.push_to_all.result
    (λ each r small. one_more (globals_of c.args.map.now r) c.args.items.now (get_or c.args.lists.now.items r []) (get_or c.push_to_all.new.lists.items r []) c.args.place (each r (rw c.requires.ranks small))) c.push_to_all.ensures.pushed

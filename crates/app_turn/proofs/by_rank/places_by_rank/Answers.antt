use Rattle.std.proofs.Common.{◌∙◌, ap}
use Rattle.std.specs.List.{flat_map}
use Rattle.std.proofs.lemmas.List.{take_all}
use Rattle.index_maps.specs.Maps.{globals_of}
use Rattle.scene_model.specs.Logs.{arrived_at}
use Rattle.app_turn.proofs.ByRank.{got_more}
use Rattle.app_turn.proofs.by_rank.places_by_rank.Goals as goal

pub loop-place-preserved : goal.loop-place-preserved
loop-place-preserved c = record {
  counted = c.in_ok-push_item.ensures.count ∙ c.loop-place.invariant.counted;
  got = λ r small.
      got_more (globals_of c.args.map.now r) c.args.items.now c.loop-place.place _ _ c.loop-place-test.true
      (c.loop-place.invariant.got r small) (c.in_ok-push_item.ensures.got r small);
}

pub returns-clause-got : goal.returns-clause-got
returns-clause-got c = λ r small.
    c.loop-place.invariant.got r small
    ∙ ap (flat_map (arrived_at (globals_of c.args.map.now r))) (take_all c.loop-place.place c.args.items.now c.loop-place-test.false)

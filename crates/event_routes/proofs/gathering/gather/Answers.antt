use Rattle.std.proofs.Common.{◌∙◌, arith, sym}
use Rattle.event_routes.specs.Routing.{target_on}
use Rattle.event_routes.proofs.Filling.{all_ranks, far_more, ranks_more}
use Rattle.event_routes.proofs.gathering.gather.Goals as goal

pub loop-rank-preserved : goal.loop-rank-preserved
loop-rank-preserved c =
    let pushed = c.in_ok-push_rank.ensures in
    record {
      counted = pushed.count ∙ c.loop-rank.invariant.counted;
      targets = λ g in_lists.
          let was = c.loop-rank.invariant.targets g (omega (arith, pushed.count)) in
          pushed.targets g (omega (arith, pushed.count)) ∙ rw was (sym (ranks_more (target_on c.args.map.now g) c.loop-rank.rank));
      far = λ g past. far_more c.args.map.now c.loop-rank.rank g pushed.small past (c.loop-rank.invariant.far g past);
    }

pub returns-clause-targets : goal.returns-clause-targets
returns-clause-targets c = λ g lt.
    all_ranks c.args.map.now c.loop-rank.lists.items c.loop-rank.rank c.args.end g (omega (arith, c.rank_count-rank-end.ensures)) (omega (arith, c.loop-rank.invariant.counted, c.in_ok-lists.ensures.count, c.min.ensures)) lt
    (c.loop-rank.invariant.targets g) (c.loop-rank.invariant.far g)

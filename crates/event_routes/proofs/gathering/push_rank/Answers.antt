use Rattle.std.proofs.Common.{arith}
use Rattle.std.proofs.lemmas.List.{length-set}
use Rattle.index_maps.specs.Maps.{globals_of}
use Rattle.event_routes.proofs.Filling.{next_local}
use Rattle.event_routes.proofs.gathering.push_rank.Goals as goal

pub loop-local-preserved : goal.loop-local-preserved
loop-local-preserved c =
    let pushed = c.in_ok-push_local.ensures in
    record {
      counted = rw (pushed, length-set) c.loop-local.invariant.counted;
      targets = λ g in_lists.
          next_local c.loop-local.lists.items c.push_local.new.lists.items _ (globals_of c.args.map.now c.args.rank) c.args.rank c.loop-local.local g
          c.size_at-local-end.ensures.indices (omega (arith, c.size_at-local-end.ensures.size)) (omega (arith, c.loop-local.invariant.counted)) pushed (c.loop-local.invariant.targets g in_lists);
    }

use Rattle.std.proofs.Common.{◌≡◌, ◌+◌, sym, arith}
use Rattle.std.proofs.lemmas.List.Elements.{All-push}
use Rattle.std.proofs.lemmas.List.FromFn.{map-range_with_len_more}
use Rattle.scene_model.specs.Waits.{IsLawfulLimit, stated}
use Rattle.latency_graph.proofs.stated.stated_limits.Goals as goal

pub loop-c-preserved : goal.loop-c-preserved
loop-c-preserved c =
    let here : 0 + c.loop-c.c ≡ c.loop-c.c = omega arith in
    let more = map-range_with_len_more (stated c.args.scene.now) 0 c.loop-c.c c.loop-c.c here in
    record {
      limits = rw (c.in_ok-push.ensures.items, c.loop-c.invariant.limits, c.stated_limit.ensures.value) (sym more);
      lawful = rw c.in_ok-push.ensures.items (All-push IsLawfulLimit _ _ c.loop-c.invariant.lawful c.stated_limit.ensures.lawful);
    }

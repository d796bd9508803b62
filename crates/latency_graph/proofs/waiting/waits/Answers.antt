use Rattle.std.proofs.Common.{◌≡◌, ◌∙◌, length, ap, sym, arith}
use Rattle.scene_model.proofs.WaitBounds.{waits_within}
use Rattle.latency_graph.proofs.WaitLists.{waits_below, waits_below-more}
use Rattle.latency_graph.proofs.waiting.waits.Goals as goal

pub loop-c-preserved : goal.loop-c-preserved
loop-c-preserved c = rw (c.in_ok-push_waits.ensures, c.loop-c.invariant) (sym (waits_below-more c.args.scene.now c.args.limits.now c.loop-c.c))

pub returns-clause-waits : goal.returns-clause-waits
returns-clause-waits c =
    let all : c.loop-c.c ≡ length c.args.scene.now.links = omega (arith, c.requires.counted) in
    c.loop-c.invariant ∙ ap (waits_below c.args.scene.now c.args.limits.now) all

pub returns-clause-within : goal.returns-clause-within
returns-clause-within c = rw (returns-clause-waits c) (waits_within c.args.scene.now c.args.limits.now c.requires.scene c.requires.counted c.requires.lawful)

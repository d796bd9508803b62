use Rattle.std.proofs.Common.{◌≡◌, ◌∙◌, ap}
use Rattle.music_base.specs.Clocks.{steps_until}
use Rattle.scene_model.specs.Clocks.{span, steps, tick}
use Rattle.scene_model.specs.declared.scene.AppDecl.{AppDecl}
use Rattle.act_orders.proofs.Lists.{one_place_more}
use Rattle.act_orders.proofs.opening.step_counts.Goals as goal

pub loop-app-preserved : goal.loop-app-preserved
unfolding steps tick
loop-app-preserved c =
    let now : c.steps.result ≡ steps c.args.scene.now c.loop-app.app = c.steps.ensures ∙ ap (λ (a : AppDecl). steps_until (span a) a.tick) c.app.ensures in
    c.in_ok-push.ensures.items ∙ one_place_more (steps c.args.scene.now) c.loop-app.app _ c.loop-app.counts.items c.loop-app.invariant now

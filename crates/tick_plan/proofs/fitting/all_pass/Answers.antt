use Rattle.std.proofs.Common.{◌≡◌, length, take, refl, subst}
use Rattle.std.proofs.lemmas.List.{take_all}
use Rattle.std.proofs.lemmas.List.Elements.{All-more}
use Rattle.scene_model.specs.Cover.{Passes}
use Rattle.scene_model.specs.declared.wait.Wait.{Wait}
use Rattle.tick_plan.proofs.fitting.all_pass.Goals as goal

pub loop-wait-preserved : goal.loop-wait-preserved
loop-wait-preserved c =
    let P : Wait → Type 0 = Passes (length c.args.potentials.now) c.args.potentials.now in
    All-more P c.args.waits.now c.loop-wait.wait-index c.wait-item.result c.loop-wait-test.true c.loop-wait.invariant (subst P c.wait-item.is (c.if-not-passes.ensures.0 refl))

pub returns : goal.returns
returns c =
    let all : take c.loop-wait.wait-index c.args.waits.now ≡ c.args.waits.now = take_all c.loop-wait.wait-index c.args.waits.now c.loop-wait-test.false in
    (λ _. rw all at c.loop-wait.invariant, λ _. refl)

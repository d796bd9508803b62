use Rattle.std.proofs.Common.{◌≡◌, ◌+◌, ◌∙◌, ap, sym, subst, arith, List}
use Rattle.scene_model.proofs.Finish.{left_of}
use Rattle.scene_model.specs.declared.act.Act.{Act}
use Rattle.step_core.specs.Cores.{CoreView, IsAfter}
use Rattle.step_core.proofs.Finding.{after_act_is, one_less_left}
use Rattle.step_core.proofs.Running.{done_after}
use Rattle.step_core.proofs.alone.drive.Goals as goal

pub loop-act-smaller : goal.loop-act-smaller
loop-act-smaller c =
    let one : left_of c.loop-act.core.scene c.loop-act.core.counts ≡ left_of c.act.new.self.scene c.act.new.self.counts + 1 =
    one_less_left c.args.scene.now c.args.core.now.limits c.loop-act.acts c.loop-act.core c.act.new.self c.in-Some.act c.loop-act.invariant.0 c.in-Some.ensures.found c.in_ok-act.ensures.ok in
    omega (arith, one)

pub loop-act-preserved : goal.loop-act-preserved
loop-act-preserved c =
    let F : List Act → Type 0 = λ (acts : List Act). IsAfter c.args.scene.now c.args.core.now.limits acts c.act.new.self in (
      subst F (sym c.in_ok-push_act.ensures)
          (after_act_is c.args.scene.now c.args.core.now.limits c.loop-act.acts c.loop-act.core c.act.new.self c.in-Some.act c.loop-act.invariant.0 c.in-Some.ensures.found c.in_ok-act.ensures.ok),
      ap (λ (x : CoreView). x.released) c.in_ok-act.ensures.ok ∙ c.loop-act.invariant.1,
    )

pub returns-clause-done : goal.returns-clause-done
returns-clause-done c = done_after c.args.scene.now c.args.core.now.limits c.loop-act.acts c.loop-act.core c.loop-act.invariant.0 c.in_default.ensures.found

pub returns-clause-kept : goal.returns-clause-kept
returns-clause-kept c = c.loop-act.invariant.1

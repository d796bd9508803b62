use Rattle.std.proofs.Common.{◌<◌, ◌+◌, ◌∷◌, ◌∙◌, [], ℕ, ap, sym, subst, length, length-append, List}
use Rattle.std.specs.Arc.{arc_value}
use Rattle.scene_model.specs.declared.scene.Scene.{Scene}
use Rattle.app_turn.specs.Machines.{Machine}
use Rattle.app_turn.specs.Moves.{IsStarted}
use Rattle.step_core.specs.Cores.{machine_at}
use Rattle.step_core.proofs.Opening.{started-more}
use Rattle.step_core.proofs.starts.start_machines.Goals as goal

pub loop-app-preserved : goal.loop-app-preserved
loop-app-preserved c =
    let scene = arc_value c.args.scene.now in
    let F : List Machine → Type 0 = λ (l : List Machine). (a : ℕ) → a < c.loop-app.app + 1 → IsStarted scene a (machine_at l a) in
    let e = c.in_ok-push.ensures.items in
    let started : IsStarted scene c.loop-app.app c.in_ok-machine.machine = subst (λ (x : Scene). IsStarted x c.loop-app.app c.in_ok-machine.machine) c.in_ok-clone.ensures.cases c.in_ok-machine.ensures in (
      ap (λ (l : List Machine). length l) e ∙ length-append c.loop-app.machines.items (c.in_ok-machine.machine ∷ []) ∙ ap (λ n. n + 1) c.loop-app.invariant.0,
      subst F (sym e) (started-more scene c.loop-app.machines.items c.in_ok-machine.machine c.loop-app.app c.loop-app.invariant.0 c.loop-app.invariant.1 started),
    )

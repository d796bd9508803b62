use Rattle.std.proofs.Common.{[], ◌∷◌, ◌++◌, append-nil, refl, ap, sym, ◌∙◌, arith}
use Rattle.scene_model.specs.declared.wait.Wait.{Wait}
use Rattle.tick_plan.proofs.choosing.choose.Goals as goal

pub returns-in-Some : goal.returns-in-Some
returns-in-Some c =
    rw c.in-Some.is (record { in_range = rw c.in-Some.is at c.requires.lawful; below = tt; chosen = refl; counting = sym (append-nil c.args.counting.now.items) })

pub returns-in_ok-push-in-None : goal.returns-in_ok-push-in-None
returns-in_ok-push-in-None c =
    let limit = c.in_ok-limit-in-None.ensures in
    let least = rw c.deref.ensures.value at limit.least in
    rw c.in-None.is (record {
      in_range = (least.some, omega (arith, limit.below));
      below = limit.below;
      chosen = least;
      counting = c.in_ok-push-in-None.ensures.items ∙ ap (λ (w : Wait). c.args.counting.now.items ++ w ∷ []) c.room_wait.ensures;
    })

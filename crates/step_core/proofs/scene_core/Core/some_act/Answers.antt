use Rattle.std.proofs.Common.{Some, refl}
use Rattle.step_core.proofs.Finding.{found, none_found}
use Rattle.step_core.proofs.scene_core.Core.some_act.Goals as goal

pub returns-in-Some-clause-none : goal.returns-in-Some-clause-none
returns-in-Some-clause-none c =
    rw (← c.self.view_is) (none_found _ _ _ _ _ _ _ c.self.invariant (Some c.in-Some.act) (rw (← c.self.view_is) at c.in-Some.ensures.some))

pub returns-in-None-clause-none : goal.returns-in-None-clause-none
returns-in-None-clause-none c =
    rw (← c.self.view_is) (none_found _ _ _ _ _ _ _ c.self.invariant c.app_act.result (rw (← c.self.view_is) at c.app_act.ensures.some))

pub returns-in-None-clause-found : goal.returns-in-None-clause-found
returns-in-None-clause-found c =
    rw (← c.self.view_is) (found _ _ _ _ _ _ _ c.self.invariant c.app_act.result (rw (← c.self.view_is) at c.app_act.ensures.some) (rw (← c.self.view_is) at (c.in-None.ensures.none refl)) (rw (← c.self.view_is) at c.app_act.ensures.none))

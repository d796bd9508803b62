-- A scene without a fault is accepted, and then live under its limits, or has a cycle to be reported; never both.
use Rattle.std.proofs.Common.{ℕ, ◌⊎◌, inl, inr, length, List}
use Rattle.std.specs.Prelude.{All}
use Rattle.scene_model.specs.declared.scene.Scene.{Scene}
use Rattle.scene_model.specs.declared.wait.Wait.{Wait}
use Rattle.scene_model.specs.Cover.{AllCovered, HasUncovered, IsReportable}
use Rattle.scene_model.specs.Faults.{IsFaultless}
use Rattle.scene_model.specs.Orders.{IsLive}
use Rattle.scene_model.specs.Waits.{AreLimits, IsAccepted, stated_limits, waits}
use Rattle.scene_model.proofs.Accepted.{accepted_live}
use Rattle.scene_model.proofs.Chosen.{accepted_have_limits, between}
use Rattle.scene_model.proofs.Cycles.{covered_or_not, passed_are_covered}
use Rattle.scene_model.proofs.LeastWalks.{HasPotentials, IsBetween, potentials_or_uncovered}
use Rattle.scene_model.proofs.ReportableCycles.{HasReportable, uncovered_has_reportable}
use Rattle.scene_model.proofs.WellFormedScenes.{well_formed}

-- every cycle of some waits between n applications is covered, or one can be reported
covered_or_reportable : (n : ℕ) (all : List Wait) → All (IsBetween n) all → AllCovered all ⊎ HasReportable all
covered_or_reportable n all between = go (potentials_or_uncovered n all between)
  where
    go : HasPotentials n all ⊎ HasUncovered all → AllCovered all ⊎ HasReportable all
    go (inl (potentials, counted, passed)) = inl (passed_are_covered n potentials all passed)
    go (inr uncovered) = inr (uncovered_has_reportable all uncovered)

pub accepted_or_reportable : (scene : Scene) → IsFaultless scene → IsAccepted scene ⊎ HasReportable (waits scene (stated_limits scene))
accepted_or_reportable scene faultless =
    covered_or_reportable (length scene.apps) (waits scene (stated_limits scene)) (between scene (well_formed scene faultless) (stated_limits scene))

pub accepted_is_live : (scene : Scene) → IsFaultless scene → IsAccepted scene → (limits : List ℕ) × AreLimits scene limits × IsLive scene limits
accepted_is_live scene faultless accepted =
    let ok = well_formed scene faultless in
    let found = accepted_have_limits scene ok accepted in
    (found.0, found.1.0, accepted_live scene ok accepted found.0 found.1.0)

pub not_both : (scene : Scene) (cycle : List Wait) → IsAccepted scene → IsReportable (waits scene (stated_limits scene)) cycle → ⊥
not_both scene cycle accepted found = covered_or_not (waits scene (stated_limits scene)) accepted (cycle, found.uncovered)

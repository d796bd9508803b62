-- Scenes with their plans, and the faults of a configuration and of a text.
use Rattle.std.specs.Prelude.{⊤, ◌≡◌, ℕ, List, map, Ok}
use Rattle.std.specs.Option.{is_some}
use Rattle.config_text.specs.Text.{HasFault, Spells}
use Rattle.config_text.specs.declared.config.Config.{Config}
use Rattle.scene_model.specs.Cover.{IsReportable}
use Rattle.scene_model.specs.Faults.{IsFaultless}
use Rattle.scene_model.specs.Waits.{AreLimits, IsAccepted, stated_limits, waits}
use Rattle.scene_model.specs.declared.scene.Scene.{Scene}
use Rattle.scene_model.specs.declared.wait.Wait.{Wait}
use Rattle.tick_plan.specs.Plans.{PlanFits}
use Rattle.tick_plan.specs.declared.plan.Plan.{Plan}
use Rattle.music_setup.specs.Faults.{IsSetupFault}
use Rattle.music_setup.specs.Scenes.{scene_of}
use Rattle.music_setup.specs.declared.fault.SetupFault.{SetupFault}
use Rattle.music_setup.specs.declared.fault.SetupFault.TheVariants as setup

-- ---- what is ready

pub record PlannedScene : Type 0 where
  pub scene : Scene
  pub plan : Plan

-- The scene has no fault and is accepted. The plan has the limits of its connections, says which of them are stated, and
-- fits the scene.
pub record IsSound (ready : PlannedScene) : Type 0 where
  pub faultless : IsFaultless ready.scene
  pub accepted : IsAccepted ready.scene
  pub limits : AreLimits ready.scene ready.plan.limits.items
  pub stated : ready.plan.stated.items ≡ map is_some (stated_limits ready.scene)
  pub fits : PlanFits ready.scene ready.plan

-- the bytes spell a configuration that describes this scene
abbrev pub SpellsScene : List ℕ → Scene → Type 0
SpellsScene bytes scene = (config : Config) × Spells config bytes × (scene_of config ≡ Ok scene)

-- ---- faults

-- the configuration describes a scene with this cycle of waits under stated limits that is not covered; no application waits
-- twice in it, and its first waiter has the least place
abbrev pub HasUncovered : Config → List Wait → Type 0
HasUncovered config cycle = (scene : Scene) × (scene_of config ≡ Ok scene) × IsReportable (waits scene (stated_limits scene)) cycle

-- the first fault of a configuration, or where it has none a cycle of its scene
abbrev pub IsConfigFault : Config → SetupFault → Type 0
IsConfigFault config (setup.Text line kind) = ⊥
IsConfigFault config (setup.Scene fault) = IsSetupFault (scene_of config) (setup.Scene fault)
IsConfigFault config (setup.Link place kind) = IsSetupFault (scene_of config) (setup.Link place kind)
IsConfigFault config (setup.Uncovered cycle) = HasUncovered config cycle.0.items
IsConfigFault config setup.Memory = ⊤

-- the bytes spell a configuration that has this fault
abbrev pub SpellsFault : List ℕ → SetupFault → Type 0
SpellsFault bytes fault = (config : Config) × Spells config bytes × IsConfigFault config fault

-- the first fault of a text, or where it has none that of the configuration that it spells
abbrev pub IsTextFault : List ℕ → SetupFault → Type 0
IsTextFault bytes (setup.Text line kind) = HasFault bytes line kind
IsTextFault bytes (setup.Scene fault) = SpellsFault bytes (setup.Scene fault)
IsTextFault bytes (setup.Link place kind) = SpellsFault bytes (setup.Link place kind)
IsTextFault bytes (setup.Uncovered cycle) = SpellsFault bytes (setup.Uncovered cycle)
IsTextFault bytes setup.Memory = ⊤

-- Faults of the text, of the scene and of its plan are those of the whole.
use Rattle.std.proofs.Common.{◌≡◌, ℕ, List, length, Ok, Some, refl, sym, ap, subst, ◌∙◌}
use Rattle.std.specs.Prelude.{All}
use Rattle.std.proofs.lemmas.List.{length-map}
use Rattle.cycle_check.specs.CycleTexts.{IsBetween}
use Rattle.scene_model.specs.Cover.{IsReportable}
use Rattle.scene_model.specs.Faults.{IsFaultless}
use Rattle.scene_model.specs.declared.scene.AppDecl.{AppDecl}
use Rattle.scene_model.specs.declared.wait.Wait.{Wait}
use Rattle.music_setup.specs.Texts.{HasCycleText, HasText, names_in}
use Rattle.music_setup.proofs.SceneNames.{names_of_scene}
use Rattle.music_setup.proofs.ToldCycles.{told_between, told_bounded, told_short}
use Rattle.config_text.specs.Text.{IsFaultOf, Spells}
use Rattle.config_text.specs.declared.config.Config.{Config}
use Rattle.config_text.specs.declared.text_fault.TextFault.{TextFault}
use Rattle.config_text.specs.declared.text_fault.TextFault.TheVariants as text
use Rattle.scene_model.specs.Waits.{stated_limits, waits}
use Rattle.scene_model.specs.declared.scene.Scene.{Scene}
use Rattle.tick_plan.specs.Faults.{ReportsUncovered}
use Rattle.tick_plan.specs.declared.fault.NegotiateFault.{NegotiateFault}
use Rattle.tick_plan.specs.declared.fault.NegotiateFault.TheVariants as plan
use Rattle.music_setup.specs.Faults.{IsSetupFault, of_plan, of_text}
use Rattle.music_setup.specs.Scenes.{scene_of}
use Rattle.music_setup.specs.Setups.{IsConfigFault, IsTextFault}
use Rattle.music_setup.specs.declared.fault.SetupFault.{SetupFault}
use Rattle.music_setup.specs.declared.fault.SetupFault.TheVariants as setup

pub scene_fault : (config : Config) (fault : SetupFault) → IsSetupFault (scene_of config) fault → IsConfigFault config fault
scene_fault config (setup.Text line kind) is = absurd is
scene_fault config (setup.Scene fault) is = is
scene_fault config (setup.Link place what) is = is
scene_fault config (setup.Uncovered cycle) is = absurd is
scene_fault config setup.Memory is = tt

pub plan_fault : (config : Config) (scene : Scene) (fault : NegotiateFault) → scene_of config ≡ Ok scene → ReportsUncovered (waits scene (stated_limits scene)) fault → IsConfigFault config (of_plan fault)
plan_fault config scene plan.Memory describes told = tt
plan_fault config scene (plan.Uncovered cycle) describes told = (scene, describes, told)

pub text_fault : (bytes : List ℕ) (fault : TextFault) → IsFaultOf bytes fault → IsTextFault bytes (of_text fault)
text_fault bytes text.Memory is = tt
text_fault bytes (text.At line kind) is = is

pub spelled_fault : (bytes : List ℕ) (config : Config) (fault : SetupFault) → Spells config bytes → IsConfigFault config fault → IsTextFault bytes fault
spelled_fault bytes config (setup.Text line kind) spells is = absurd is
spelled_fault bytes config (setup.Scene fault) spells is = (config, spells, is)
spelled_fault bytes config (setup.Link place what) spells is = (config, spells, is)
spelled_fault bytes config (setup.Uncovered cycle) spells is = (config, spells, is)
spelled_fault bytes config setup.Memory spells is = tt

-- ---- each has a text

as_many : (config : Config) (scene : Scene) → scene_of config ≡ Ok scene → length scene.apps ≡ length (names_in config.sections)
as_many config scene describes =
    sym (length-map scene.apps (λ (app : AppDecl). app.name)) ∙ ap (λ (names : List (List ℕ)). length names) (names_of_scene config scene describes)

told_has_text : (config : Config) (scene : Scene) (cycle : List Wait) → scene_of config ≡ Ok scene → IsFaultless scene
    → IsReportable (waits scene (stated_limits scene)) cycle → HasCycleText (length (names_in config.sections)) cycle
told_has_text config scene cycle describes faultless told = record {
  between = subst (λ (n : ℕ). All (IsBetween n) cycle) (as_many config scene describes) (told_between scene cycle faultless told);
  bounded = told_bounded scene cycle faultless told;
  short = told_short scene cycle faultless told;
}

pub plan_has_text : (config : Config) (scene : Scene) (fault : NegotiateFault) → scene_of config ≡ Ok scene → IsFaultless scene → ReportsUncovered (waits scene (stated_limits scene)) fault
    → (of_plan fault ≡ setup.Memory → ⊥) → HasText (Some config) (of_plan fault)
plan_has_text config scene plan.Memory describes faultless told some = absurd (some refl)
plan_has_text config scene (plan.Uncovered cycle) describes faultless told some = told_has_text config scene cycle.0.items describes faultless told

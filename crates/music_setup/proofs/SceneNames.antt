-- The names of the sections, which the applications of a scene have.
use Rattle.std.proofs.Common.{◌≡◌, ℕ, ◌+◌, List, [], ◌∷◌, ◌++◌, take, Ok, Some, ap, ◌∙◌, ◌≤◌}
use Rattle.std.specs.Prelude.{IfOk, slice_get, codes}
use Rattle.std.proofs.lemmas.List.{map_more}
use Rattle.std.proofs.lemmas.Option.{slice_get_within, get_or_from_slice_get}
use Rattle.text_words.proofs.Results.{IfOk-bind, IfOk-faults_as, IfOk-given, IfOk-of}
use Rattle.config_text.specs.Pairs.{SectionList, SettingList, value_of}
use Rattle.config_text.specs.declared.config.Config.{Config}
use Rattle.scene_model.specs.declared.scene.AppDecl.{AppDecl}
use Rattle.scene_model.specs.declared.scene.Scene.{Scene}
use Rattle.music_base.specs.Times.{greatest_time}
use Rattle.music_setup.specs.Apps as apps
use Rattle.music_setup.specs.Apps.{apps_until, stop_of}
use Rattle.music_setup.specs.Scenes as scenes
use Rattle.music_setup.specs.Scenes.{links_of, scene_of}
use Rattle.music_setup.specs.Texts.{names_in}
use Rattle.music_setup.specs.declared.fault.SetupFault.TheVariants as setup
use Rattle.music_setup.proofs.Faultless.{HaveNames, names_are, stop_is}

-- the name of one section more
pub next_name : (sections : SectionList) (place : ℕ) (section : List ℕ × SettingList) → slice_get sections place ≡ Some section
    → names_in (take (place + 1) sections) ≡ names_in (take place sections) ++ section.0 ∷ []
next_name sections place section is =
    map_more (λ (s : List ℕ × SettingList). s.0) sections place section (slice_get_within sections place section is)
    ∙ ap (λ (s : List ℕ × SettingList). names_in (take place sections) ++ s.0 ∷ []) (get_or_from_slice_get sections place section section is)

reading_names : (config : Config) → IfOk (apps.apps_of config) (λ read. HaveNames read.1 config.sections)
unfolding apps.apps_of
reading_names config =
    IfOk-bind (λ stop. stop ≤ greatest_time) (λ (read : ℕ × List AppDecl). HaveNames read.1 config.sections) _ (stop_of config) (stop_is (value_of config.defaults (codes "stoptime"))) (λ stop early.
    IfOk-given (λ (read : ℕ × List AppDecl). HaveNames read.1 config.sections) _ (apps_until config stop) (λ apps gave. names_are config stop apps early gave))

scene_names : (config : Config) → IfOk (scene_of config) (λ scene. HaveNames scene.apps config.sections)
unfolding scene_of
scene_names config =
    IfOk-bind (λ (read : ℕ × List AppDecl). HaveNames read.1 config.sections) (λ (scene : Scene). HaveNames scene.apps config.sections) _ (scenes.apps_of config)
    (IfOk-faults_as (λ (read : ℕ × List AppDecl). HaveNames read.1 config.sections) setup.Scene (apps.apps_of config) (reading_names config)) (λ read named.
    IfOk-given (λ (scene : Scene). HaveNames scene.apps config.sections) _ (links_of read.1 config) (λ links gave. named))

pub names_of_scene : (config : Config) (scene : Scene) → scene_of config ≡ Ok scene → HaveNames scene.apps config.sections
names_of_scene config scene gave = IfOk-of (λ (scene : Scene). HaveNames scene.apps config.sections) (scene_of config) scene (scene_names config) gave

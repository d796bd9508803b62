-- Where a configuration states no times of single applications, they all start at 0 and stop with the scene.
use Rattle.std.proofs.Common.{◌≡◌, ℕ, ◌-◌, zero, suc, true, List, [], ◌∷◌, length, refl, Option, Some, None}
use Rattle.std.specs.Prelude.{IfSome, Ok, IfOk, codes, is_none, nat_le, slice_get}
use Rattle.std.specs.List.{AllByRecursion}
use Rattle.std.specs.Option.{option_and_then}
use Rattle.std.proofs.lemmas.Bool.{and_parts}
use Rattle.music_base.specs.Clocks.{steps_until}
use Rattle.music_base.proofs.Lists.{All-at, All-push}
use Rattle.text_words.specs.InTurn.{some_or}
use Rattle.text_words.specs.OneWord.{time_in}
use Rattle.text_words.proofs.Results.{IfOk-bind, IfOk-faults_as, IfOk-given, IfOk-of, IfOk-some_or, Ok-faults_as}
use Rattle.text_words.proofs.Turns.{in_turn-keeps}
use Rattle.config_text.specs.Lookup.{looked_up}
use Rattle.config_text.specs.Pairs.{SectionList, SettingList, value_of}
use Rattle.config_text.specs.declared.config.Config.{Config}
use Rattle.scene_model.specs.Limits.{most_steps}
use Rattle.scene_model.specs.Scenes.{no_app}
use Rattle.scene_model.specs.Together.{RunTogether}
use Rattle.scene_model.specs.declared.scene.AppDecl.{AppDecl}
use Rattle.scene_model.specs.declared.scene.Scene.{Scene}
use Rattle.music_setup.specs.Apps.{app_beside, app_in, apps_until, end_in, holds_or, is_script, np_of, parts_in, start_in, stop_in, stop_of, tick_in, times_of}
use Rattle.music_setup.specs.Apps as apps
use Rattle.music_setup.specs.OwnTimes.{HasNoOwnTimes, no_section_has}
use Rattle.music_setup.specs.Scenes.{links_of, scene_of}
use Rattle.music_setup.specs.Scenes as scenes
use Rattle.music_setup.specs.declared.fault.AppKind.TheVariants.{Binary, TickText, StartText, EndText, TooManySteps}
use Rattle.music_setup.specs.declared.fault.SceneFault.TheVariants.{StopText, App}
use Rattle.music_setup.specs.declared.fault.SetupFault.TheVariants as setup
use Rattle.music_setup.specs.declared.times.Times.{Times}

-- ---- settings

pub none_is : {X : Type 0} (value : Option X) → is_none value ≡ true → value ≡ None
none_is None none = refl
none_is (Some x) none = absurd cc

own_none : (name : List ℕ) (sections : SectionList) (a : ℕ) → no_section_has sections name ≡ true
    → option_and_then (λ (own : List ℕ × SettingList). value_of own.1 name) (slice_get sections a) ≡ None
own_none name [] a none = refl
own_none name (section ∷ sections) zero none = none_is (value_of section.1 name) (and_parts (is_none (value_of section.1 name)) (no_section_has sections name) none).0
own_none name (section ∷ sections) (suc a) none = own_none name sections a (and_parts (is_none (value_of section.1 name)) (no_section_has sections name) none).1

-- so each section has the default
default_counts : (config : Config) (a : ℕ) (name : List ℕ) → no_section_has config.sections name ≡ true → looked_up config a name ≡ value_of config.defaults name
unfolding looked_up
default_counts config a name none = rw (own_none name config.sections a none) refl

-- the default stop is read as that of an application, as it is read as that of the scene
end_is_stop : (stop : ℕ) (text : Option (List ℕ)) → stop_in text ≡ Ok stop → IfSome (end_in stop text) (λ end. end ≡ stop)
unfolding stop_in end_in
end_is_stop stop None gave = refl
end_is_stop stop (Some text) gave = go (time_in text) gave
  where
    go : (time : Option ℕ) → some_or time StopText ≡ Ok stop → IfSome time (λ end. end ≡ stop)
    go None gave = tt
    go (Some time) gave = cc

-- ---- an application

module _ (config : Config) (none : HasNoOwnTimes config) (stop : ℕ) (stops : stop_of config ≡ Ok stop) where
  start_is_0 : (a : ℕ) → IfSome (start_in (looked_up config a (codes "start"))) (λ start. start ≡ 0)
  unfolding start_in
  start_is_0 a = rw (default_counts config a (codes "start") none.starts, none.default_start) refl

  stops_with_all : (a : ℕ) → IfSome (end_in stop (looked_up config a (codes "stoptime"))) (λ end. end ≡ stop)
  stops_with_all a = rw (default_counts config a (codes "stoptime") none.stops) (end_is_stop stop (value_of config.defaults (codes "stoptime")) stops)

  abbrev AreAll : Times → Type 0
  AreAll times = (times.start ≡ 0) × (times.stop ≡ stop)

  times_of-are_all : (a : ℕ) → IfOk (times_of config stop a) AreAll
  unfolding times_of
  times_of-are_all a =
      IfOk-given AreAll _ (holds_or (is_script (looked_up config a (codes "binary"))) Binary) (λ scripted is.
      IfOk-given AreAll _ (some_or (tick_in (looked_up config a (codes "timestep"))) TickText) (λ tick is.
      IfOk-bind (λ start. start ≡ 0) AreAll _ (some_or (start_in (looked_up config a (codes "start"))) StartText) (IfOk-some_or (λ start. start ≡ 0) _ StartText (start_is_0 a)) (λ start zero.
      IfOk-bind (λ end. end ≡ stop) AreAll _ (some_or (end_in stop (looked_up config a (codes "stoptime"))) EndText) (IfOk-some_or (λ end. end ≡ stop) _ EndText (stops_with_all a)) (λ end same.
      IfOk-given AreAll _ (holds_or (nat_le (steps_until (end - start) tick) most_steps) TooManySteps) (λ few is.
      let all : AreAll (record { start = start; stop = end; tick = tick }) = (zero, same) in all)))))

  abbrev RunsWithAll : AppDecl → Type 0
  RunsWithAll app = (app.start ≡ 0) × (app.stop ≡ stop)

  app_runs : (a : ℕ) (name : List ℕ) → IfOk (app_in config stop a name) RunsWithAll
  unfolding app_in
  app_runs a name =
      IfOk-given RunsWithAll _ (np_of config a) (λ np is.
      IfOk-bind AreAll RunsWithAll _ (times_of config stop a) (times_of-are_all a) (λ times all.
      IfOk-given RunsWithAll _ (parts_in config a np times) (λ parts is. all)))

  beside_runs : (before : List AppDecl) (section : List ℕ × SettingList) (app : AppDecl) → app_beside config stop before section ≡ Ok app → RunsWithAll app
  beside_runs before section app gave =
      IfOk-of RunsWithAll (app_in config stop (length before) section.0) app (app_runs (length before) section.0)
      (Ok-faults_as (App (length before)) (app_in config stop (length before) section.0) app gave)

  apps_run : (apps : List AppDecl) → apps_until config stop ≡ Ok apps → AllByRecursion RunsWithAll apps
  apps_run apps gave =
      in_turn-keeps (app_beside config stop) (AllByRecursion RunsWithAll)
      (λ before section app so_far is. All-push RunsWithAll before app so_far (beside_runs before section app is))
      config.sections [] apps tt gave

-- ---- the scene

abbrev AllRun : ℕ × List AppDecl → Type 0
AllRun read = AllByRecursion (λ (app : AppDecl). (app.start ≡ 0) × (app.stop ≡ read.0)) read.1

reading_runs : (config : Config) → HasNoOwnTimes config → IfOk (apps.apps_of config) AllRun
unfolding apps.apps_of
reading_runs config none =
    IfOk-given AllRun _ (stop_of config) (λ stop stops.
    IfOk-given AllRun _ (apps_until config stop) (λ apps gave. apps_run config none stop stops apps gave))

runs_together : (read : ℕ × List AppDecl) (scene : Scene) → scene.stop ≡ read.0 → scene.apps ≡ read.1 → AllRun read → RunTogether scene
runs_together read scene stop apps all = record {
  starts = λ a app. rw apps (All-at (λ (app : AppDecl). (app.start ≡ 0) × (app.stop ≡ read.0)) read.1 a no_app all (rw apps at app)).0;
  stops = λ a app. rw (apps, stop) (All-at (λ (app : AppDecl). (app.start ≡ 0) × (app.stop ≡ read.0)) read.1 a no_app all (rw apps at app)).1;
}

scene_runs : (config : Config) → HasNoOwnTimes config → IfOk (scene_of config) RunTogether
unfolding scene_of
scene_runs config none =
    IfOk-bind AllRun RunTogether _ (scenes.apps_of config) (IfOk-faults_as AllRun setup.Scene (apps.apps_of config) (reading_runs config none)) (λ read all.
    IfOk-given RunTogether _ (links_of read.1 config) (λ links gave. runs_together read (record { stop = read.0; apps = read.1; links = links }) refl refl all))

pub scene_runs_together : (config : Config) (scene : Scene) → HasNoOwnTimes config → scene_of config ≡ Ok scene → RunTogether scene
scene_runs_together config scene none gave = IfOk-of RunTogether (scene_of config) scene (scene_runs config none) gave

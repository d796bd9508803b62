-- The scene of a configuration has no fault.
use Rattle.std.proofs.Common.{◌≡◌, ℕ, ◌-◌, ◌≤◌, Bool, true, false, not, ◌&&◌, List, [], ◌∷◌, length, map, refl, sym, ap, ◌∙◌, arith}
use Rattle.std.specs.Prelude.{Option, Some, None, IfSome, Ok, IfOk, nat_le, unwrap_or, codes, ◌==◌}
use Rattle.std.specs.Int.{IsInRange, is_in_range}
use Rattle.std.specs.List.{AllByRecursion, list_all, list_any}
use Rattle.std.proofs.lemmas.Bool.{and_parts, leb-true}
use Rattle.std.proofs.lemmas.Bool.Decides.{nat_tests}
use Rattle.std.proofs.lemmas.List.{length-map}
use Rattle.music_base.specs.Clocks.{steps_until}
use Rattle.music_base.specs.Names.{is_name}
use Rattle.music_base.specs.Times.{greatest_time}
use Rattle.music_base.proofs.Lists.{All-push}
use Rattle.music_base.proofs.TimeRange.{result_ok-time_value}
use Rattle.music_base.specs.Counts.{count_up_to}
use Rattle.text_words.specs.InTurn.{some_or}
use Rattle.text_words.specs.OneWord.{time_in}
use Rattle.text_words.proofs.Options.{IfSome-when, count_up_to-is}
use Rattle.text_words.proofs.Results.{IfOk-bind, IfOk-faults_as, IfOk-from, IfOk-given, IfOk-of, IfOk-some_or, Ok-faults_as}
use Rattle.text_words.proofs.Turns.{in_turn-keeps, in_turn-map}
use Rattle.config_text.specs.Lawful.{are_links, are_sections, are_settings, is_lawful_section}
use Rattle.config_text.specs.Connections.{is_link}
use Rattle.config_text.specs.Lookup.{looked_up}
use Rattle.config_text.specs.Pairs.{SectionList, SettingList, has_own_keys, value_of}
use Rattle.config_text.specs.declared.config.Config.{Config}
use Rattle.config_text.specs.declared.link_text.LinkText.{LinkText}
use Rattle.scene_model.specs.Faults.{AreApps, IsApp, IsFaultless, app_names_differ}
use Rattle.scene_model.specs.Limits.{longest_tick, most_ranks, most_steps, most_values}
use Rattle.scene_model.specs.Ports.{ArePorts}
use Rattle.scene_model.specs.Rules.{AreRules, runs_for}
use Rattle.scene_model.specs.Turns.{same_name}
use Rattle.scene_model.specs.Values.{values_in_run}
use Rattle.scene_model.specs.declared.port.PortDecl.{PortDecl}
use Rattle.scene_model.specs.declared.rule.Rule.{Rule}
use Rattle.scene_model.specs.declared.scene.AppDecl.{AppDecl}
use Rattle.scene_model.specs.declared.scene.Link.{Link}
use Rattle.scene_model.specs.declared.scene.Scene.{Scene}
use Rattle.port_table.specs.Ports.{ports_of}
use Rattle.port_table.proofs.LawfulPorts.{ports_of-are}
use Rattle.app_scripts.specs.Rules.{rules_of}
use Rattle.app_scripts.proofs.Faultless.{rules_of-are}
use Rattle.port_match.specs.Links as match
use Rattle.port_match.proofs.Made.{links_of-are, links_of-many, links_of-numbers}
use Rattle.music_setup.specs.Apps.{app_beside, app_in, apps_until, end_in, holds_or, is_script, np_in, np_of, only_if, parts_in, ports_in, rules_in, span_of, start_in, stop_in, stop_of, tick_in, times_of}
use Rattle.music_setup.specs.declared.times.Times.{Times}
use Rattle.scene_model.specs.Clocks.{span}
use Rattle.music_setup.specs.Apps as apps
use Rattle.music_setup.specs.Faults.{of_links}
use Rattle.music_setup.specs.Scenes.{links_of, scene_of}
use Rattle.music_setup.specs.Scenes as scenes
use Rattle.music_setup.specs.Texts.{names_in}
use Rattle.music_setup.specs.declared.fault.AppKind.TheVariants.{NpText, Binary, TickText, StartText, EndText, TooManySteps, Ports, Rules, TooManyValues}
use Rattle.music_setup.specs.declared.fault.SceneFault.TheVariants.{StopText, App}
use Rattle.music_setup.specs.declared.fault.SetupFault.TheVariants as setup

-- ---- numbers

np_is : (text : Option (List ℕ)) → IfSome (np_in text) (IsInRange 1 most_ranks)
unfolding np_in
np_is None = (omega arith, omega arith)
np_is (Some text) = go (count_up_to most_ranks text) (count_up_to-is most_ranks text)
  where
    go : (count : Option ℕ) → IfSome count (λ n. nat_le n most_ranks ≡ true) → IfSome (only_if (nat_le 1) count) (IsInRange 1 most_ranks)
    go None few = tt
    go (Some n) few = IfSome-when (IsInRange 1 most_ranks) n (nat_le 1 n) (λ some. (leb-true 1 n some, leb-true n most_ranks few))

tick_is : (text : Option (List ℕ)) → IfSome (tick_in text) (IsInRange 1 longest_tick)
unfolding tick_in
tick_is None = tt
tick_is (Some text) = go (time_in text)
  where
    go : (time : Option ℕ) → IfSome (only_if (is_in_range 1 longest_tick) time) (IsInRange 1 longest_tick)
    go None = tt
    go (Some t) = IfSome-when (IsInRange 1 longest_tick) t (is_in_range 1 longest_tick t) (λ is.
        let parts = and_parts (nat_le 1 t) (nat_le t longest_tick) is in
        (leb-true 1 t parts.0, leb-true t longest_tick parts.1))

-- a time that is read
time_is : (text : List ℕ) → IfSome (time_in text) (λ time. time ≤ greatest_time)
time_is text = go (time_in text) (result_ok-time_value text)
  where
    go : (time : Option ℕ) → IfSome time (λ t. nat_le t greatest_time ≡ true) → IfSome time (λ t. t ≤ greatest_time)
    go None few = tt
    go (Some time) few = leb-true time greatest_time few

pub stop_is : (text : Option (List ℕ)) → IfOk (stop_in text) (λ stop. stop ≤ greatest_time)
unfolding stop_in
stop_is None = tt
stop_is (Some text) = IfOk-some_or (λ stop. stop ≤ greatest_time) (time_in text) StopText (time_is text)

pub stop_early : (text : Option (List ℕ)) (stop : ℕ) → stop_in text ≡ Ok stop → stop ≤ greatest_time
stop_early text stop gave = IfOk-of (λ s. s ≤ greatest_time) (stop_in text) stop (stop_is text) gave

start_is : (text : Option (List ℕ)) → IfSome (start_in text) (λ t. t ≤ greatest_time)
unfolding start_in
start_is None = omega arith
start_is (Some text) = time_is text

end_is : (stop : ℕ) (text : Option (List ℕ)) → stop ≤ greatest_time → IfSome (end_in stop text) (λ t. t ≤ greatest_time)
unfolding end_in
end_is stop None early = early
end_is stop (Some text) early = time_is text

-- ---- an application

held : {E : Type 0} (test : Bool) (fault : E) → IfOk (holds_or test fault) (λ u. test ≡ true)
held true fault = refl
held false fault = tt

np_of-is : (config : Config) (a : ℕ) → IfOk (np_of config a) (IsInRange 1 most_ranks)
unfolding np_of
np_of-is config a = IfOk-some_or (IsInRange 1 most_ranks) _ NpText (np_is (looked_up config a (codes "np")))

-- times, and the steps that they leave
record AreTimes (times : Times) : Type 0 where
  start : times.start ≤ greatest_time
  stop : times.stop ≤ greatest_time
  lasts : IsInRange 1 longest_tick times.tick
  few_steps : steps_until (span_of times) times.tick ≤ most_steps

times_of-are : (config : Config) (stop a : ℕ) → stop ≤ greatest_time → IfOk (times_of config stop a) AreTimes
unfolding times_of
times_of-are config stop a early =
    IfOk-given AreTimes _ (holds_or (is_script (looked_up config a (codes "binary"))) Binary) (λ scripted is.
    IfOk-bind (IsInRange 1 longest_tick) AreTimes _ (some_or (tick_in (looked_up config a (codes "timestep"))) TickText) (IfOk-some_or (IsInRange 1 longest_tick) _ TickText (tick_is (looked_up config a (codes "timestep")))) (λ tick lasts.
    IfOk-bind (λ t. t ≤ greatest_time) AreTimes _ (some_or (start_in (looked_up config a (codes "start"))) StartText) (IfOk-some_or (λ t. t ≤ greatest_time) _ StartText (start_is (looked_up config a (codes "start")))) (λ start soon.
    IfOk-bind (λ t. t ≤ greatest_time) AreTimes _ (some_or (end_in stop (looked_up config a (codes "stoptime"))) EndText) (IfOk-some_or (λ t. t ≤ greatest_time) _ EndText (end_is stop (looked_up config a (codes "stoptime")) early)) (λ end late.
    IfOk-bind (λ u. nat_le (steps_until (end - start) tick) most_steps ≡ true) AreTimes _ (holds_or (nat_le (steps_until (end - start) tick) most_steps) TooManySteps) (held _ TooManySteps) (λ u few.
    record { start = soon; stop = late; lasts = lasts; few_steps = leb-true (steps_until (end - start) tick) most_steps few })))))

-- its ports and rules
record HasParts (np tick span : ℕ) (parts : List PortDecl × List Rule) : Type 0 where
  ports : ArePorts np parts.0
  rules : AreRules parts.0 tick (runs_for span tick) parts.1
  few_values : values_in_run span tick parts.0 ≤ most_values

ports_are : (np : ℕ) (text : Option (List ℕ)) → 1 ≤ np → IfOk (ports_in np text) (ArePorts np)
ports_are np text some = IfOk-faults_as (ArePorts np) Ports (ports_of np (unwrap_or text [])) (IfOk-from (ArePorts np) (ports_of np (unwrap_or text [])) (λ ports gave. ports_of-are np (unwrap_or text []) ports some gave))

rules_are : (ports : List PortDecl) (tick span : ℕ) (text : Option (List ℕ)) → IfOk (rules_in ports tick span text) (AreRules ports tick (runs_for span tick))
rules_are ports tick span text =
    IfOk-faults_as (AreRules ports tick (runs_for span tick)) Rules (rules_of ports tick span (unwrap_or text []))
    (IfOk-from (AreRules ports tick (runs_for span tick)) (rules_of ports tick span (unwrap_or text [])) (λ rules gave. rules_of-are ports tick span (unwrap_or text []) rules gave))

parts_are : (config : Config) (a np : ℕ) (times : Times) → 1 ≤ np → IfOk (parts_in config a np times) (HasParts np times.tick (span_of times))
unfolding parts_in
parts_are config a np times some =
    let tick = times.tick in
    let span = span_of times in
    IfOk-bind (ArePorts np) (HasParts np tick span) _ (ports_in np (looked_up config a (codes "ports"))) (ports_are np (looked_up config a (codes "ports")) some) (λ ports are.
    IfOk-bind (AreRules ports tick (runs_for span tick)) (HasParts np tick span) _ (rules_in ports tick span (looked_up config a (codes "args"))) (rules_are ports tick span (looked_up config a (codes "args"))) (λ rules stand.
    IfOk-bind (λ u. nat_le (values_in_run span tick ports) most_values ≡ true) (HasParts np tick span) _ (holds_or (nat_le (values_in_run span tick ports) most_values) TooManyValues) (held _ TooManyValues) (λ u few.
    record { ports = are; rules = stand; few_values = leb-true (values_in_run span tick ports) most_values few })))

-- but for its name an application is lawful
record IsUnnamed (app : AppDecl) : Type 0 where
  np : IsInRange 1 most_ranks app.np
  start : app.start ≤ greatest_time
  stop : app.stop ≤ greatest_time
  tick : IsInRange 1 longest_tick app.tick
  few_steps : steps_until (span app) app.tick ≤ most_steps
  parts : HasParts app.np app.tick (span app) (app.ports, app.rules)

record IsOfName (name : List ℕ) (app : AppDecl) : Type 0 where
  named : app.name ≡ name
  rest : IsUnnamed app

app_is : (config : Config) (stop a : ℕ) (name : List ℕ) → stop ≤ greatest_time → IfOk (app_in config stop a name) (IsOfName name)
unfolding app_in
app_is config stop a name early =
    IfOk-bind (IsInRange 1 most_ranks) (IsOfName name) _ (np_of config a) (np_of-is config a) (λ np some.
    IfOk-bind AreTimes (IsOfName name) _ (times_of config stop a) (times_of-are config stop a early) (λ times are.
    IfOk-bind (HasParts np times.tick (span_of times)) (IsOfName name) _ (parts_in config a np times) (parts_are config a np times some.0) (λ parts have.
    record {
      named = refl;
      rest = record {
        np = some;
        start = are.start;
        stop = are.stop;
        tick = are.lasts;
        few_steps = are.few_steps;
        parts = record { ports = have.ports; rules = have.rules; few_values = have.few_values };
      };
    })))

-- ---- all applications

beside_is : (config : Config) (stop : ℕ) (before : List AppDecl) (section : List ℕ × SettingList) (app : AppDecl) → stop ≤ greatest_time → app_beside config stop before section ≡ Ok app → IsOfName section.0 app
beside_is config stop before section app early gave =
    IfOk-of (IsOfName section.0) (app_in config stop (length before) section.0) app (app_is config stop (length before) section.0 early)
    (Ok-faults_as (App (length before)) (app_in config stop (length before) section.0) app gave)

unnamed_are : (config : Config) (stop : ℕ) (apps : List AppDecl) → stop ≤ greatest_time → apps_until config stop ≡ Ok apps → AllByRecursion IsUnnamed apps
unnamed_are config stop apps early gave =
    in_turn-keeps (app_beside config stop) (AllByRecursion IsUnnamed)
    (λ before section app so_far is. All-push IsUnnamed before app so_far (beside_is config stop before section app early is).rest)
    config.sections [] apps tt gave

abbrev pub HaveNames : List AppDecl → SectionList → Type 0
HaveNames apps sections = map (λ (app : AppDecl). app.name) apps ≡ names_in sections

pub names_are : (config : Config) (stop : ℕ) (apps : List AppDecl) → stop ≤ greatest_time → apps_until config stop ≡ Ok apps → HaveNames apps config.sections
names_are config stop apps early gave =
    in_turn-map (app_beside config stop) (λ (app : AppDecl). app.name) (λ (section : List ℕ × SettingList). section.0)
    (λ before section app is. (beside_is config stop before section app early is).named) config.sections [] apps gave

-- sections are named by NAMEs
with_names : (apps : List AppDecl) (sections : SectionList) → HaveNames apps sections → list_all is_lawful_section sections ≡ true → AllByRecursion IsUnnamed apps → AllByRecursion IsApp apps
with_names [] sections named lawful are = tt
with_names (app ∷ apps) [] named lawful are = absurd cc
with_names (app ∷ apps) (section ∷ sections) named lawful are =
    let front = and_parts (is_lawful_section section) (list_all is_lawful_section sections) lawful in
    let name : app.name ≡ section.0 = cc in
    let others : HaveNames apps sections = cc in
    let spelled = (and_parts (is_name section.0) (are_settings section.1) front.0).0 in (
      record {
        name = rw name spelled;
        np = are.0.np;
        start = are.0.start;
        stop = are.0.stop;
        tick = are.0.tick;
        few_steps = are.0.few_steps;
        ports = are.0.parts.ports;
        rules = are.0.parts.rules;
        few_values = are.0.parts.few_values;
      },
      with_names apps sections others front.1 are.1,
    )

same_name_back : (a b : List ℕ) → same_name a b ≡ same_name b a
same_name_back [] [] = refl
same_name_back [] (y ∷ ys) = refl
same_name_back (x ∷ xs) [] = refl
same_name_back (x ∷ xs) (y ∷ ys) = let bytes : (x == y) ≡ (y == x) = grind (arith, nat_tests) in rw (bytes, same_name_back xs ys) refl

-- a name is that of another application where it is that of another section
name_again : (name : List ℕ) (apps : List AppDecl) (sections : SectionList) → HaveNames apps sections
    → list_any (λ (other : AppDecl). same_name name other.name) apps ≡ list_any (λ (other : List ℕ × SettingList). same_name other.0 name) sections
name_again name [] [] named = refl
name_again name [] (section ∷ sections) named = absurd cc
name_again name (app ∷ apps) [] named = absurd cc
name_again name (app ∷ apps) (section ∷ sections) named =
    let here : app.name ≡ section.0 = cc in
    let others : HaveNames apps sections = cc in
    rw (here, same_name_back name section.0, name_again name apps sections others) refl

names_apart : (apps : List AppDecl) (sections : SectionList) → HaveNames apps sections → has_own_keys sections ≡ true → app_names_differ apps ≡ true
names_apart [] sections named own = refl
names_apart (app ∷ apps) [] named own = absurd cc
names_apart (app ∷ apps) (section ∷ sections) named own =
    let front = and_parts (not (list_any (λ (other : List ℕ × SettingList). same_name other.0 section.0) sections)) (has_own_keys sections) own in
    let here : app.name ≡ section.0 = cc in
    let others : HaveNames apps sections = cc in
    rw (here, name_again section.0 apps sections others, front.0) (names_apart apps sections others front.1)

pub apps_are : (config : Config) (stop : ℕ) (apps : List AppDecl) → are_sections config.sections ≡ true → stop ≤ greatest_time → apps_until config stop ≡ Ok apps → AreApps apps
apps_are config stop apps lawful early gave =
    let parts = and_parts (list_all is_lawful_section config.sections && has_own_keys config.sections) (nat_le (length config.sections) 32) lawful in
    let more = and_parts (list_all is_lawful_section config.sections) (has_own_keys config.sections) parts.0 in
    let named = names_are config stop apps early gave in
    let many : length apps ≡ length config.sections =
    sym (length-map apps (λ (app : AppDecl). app.name)) ∙ (ap (λ (names : List (List ℕ)). length names) named ∙ length-map config.sections (λ (section : List ℕ × SettingList). section.0)) in
    record {
      few = omega (arith, many, leb-true (length config.sections) 32 parts.1);
      each = with_names apps config.sections named more.0 (unnamed_are config stop apps early gave);
      differ = names_apart apps config.sections named more.1;
    }

-- ---- the whole

-- links that connections of a text make, behind a stop and applications without a fault
pub linked_is : (stop : ℕ) (apps : List AppDecl) (texts : List LinkText) (links : List Link) → stop ≤ greatest_time → AreApps apps → are_links texts ≡ true → match.links_of apps texts ≡ Ok links
    → IsFaultless (record { stop = stop; apps = apps; links = links })
linked_is stop apps texts links early are lawful made =
    let parts = and_parts (list_all is_link texts) (nat_le (length texts) 64) lawful in
    record {
      stop = early;
      apps = are;
      few_links = omega (arith, links_of-many apps texts links made, leb-true (length texts) 64 parts.1);
      link_numbers = links_of-numbers apps texts links made parts.0;
      links = links_of-are apps texts links made;
    }

-- a stop and applications without a fault
record IsReading (read : ℕ × List AppDecl) : Type 0 where
  stop : read.0 ≤ greatest_time
  apps : AreApps read.1

reading_is : (config : Config) → are_sections config.sections ≡ true → IfOk (apps.apps_of config) IsReading
unfolding apps.apps_of
reading_is config lawful =
    IfOk-bind (λ stop. stop ≤ greatest_time) IsReading _ (stop_of config) (stop_is (value_of config.defaults (codes "stoptime"))) (λ stop early.
    IfOk-given IsReading _ (apps_until config stop) (λ apps gave. record { stop = early; apps = apps_are config stop apps lawful early gave }))

scene_is : (config : Config) → are_sections config.sections ≡ true → are_links config.links ≡ true → IfOk (scene_of config) IsFaultless
unfolding scene_of
scene_is config lawful linked =
    IfOk-bind IsReading IsFaultless _ (scenes.apps_of config) (IfOk-faults_as IsReading setup.Scene (apps.apps_of config) (reading_is config lawful)) (λ read is.
    IfOk-given IsFaultless _ (links_of read.1 config) (λ links gave.
    linked_is read.0 read.1 config.links links is.stop is.apps linked (Ok-faults_as of_links (match.links_of read.1 config.links) links gave)))

-- the scene that a lawful configuration describes has no fault
pub scene_is_faultless : (config : Config) (scene : Scene) → are_sections config.sections ≡ true → are_links config.links ≡ true → scene_of config ≡ Ok scene → IsFaultless scene
scene_is_faultless config scene lawful linked gave = IfOk-of IsFaultless (scene_of config) scene (scene_is config lawful linked) gave

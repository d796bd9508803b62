-- What a fault names stands in its configuration.
use Rattle.std.proofs.Common.{◌≡◌, ℕ, ◌<◌, List, length, Option, Some, None, refl, ap, subst, arith}
use Rattle.std.specs.Prelude.{Result, Ok, Err, IfErr, slice_get, IsSomeAnd}
use Rattle.std.proofs.lemmas.Option.{slice_get_within}
use Rattle.text_words.specs.InTurn.{◌>>=◌, some_or, faults_as}
use Rattle.text_words.proofs.Turns.{first_fault}
use Rattle.config_text.specs.Pairs.{SettingList}
use Rattle.config_text.specs.declared.config.Config.{Config}
use Rattle.scene_model.specs.declared.scene.AppDecl.{AppDecl}
use Rattle.scene_model.specs.declared.scene.Link.{Link}
use Rattle.scene_model.specs.declared.scene.Scene.{Scene}
use Rattle.port_match.specs.declared.fault.MatchFault.{MatchFault}
use Rattle.port_match.specs.declared.fault.MatchFault.TheVariants as match
use Rattle.music_setup.specs.Apps.{app_beside, app_in, apps_until, apps_of, stop_of, stop_in}
use Rattle.music_setup.specs.Faults.{of_links, IsSetupFault}
use Rattle.music_setup.specs.Scenes.{scene_of, links_of}
use Rattle.music_setup.specs.Texts.{HasKindText, HasText}
use Rattle.music_setup.specs.declared.fault.AppKind.{AppKind}
use Rattle.music_setup.specs.declared.fault.SceneFault.{SceneFault}
use Rattle.music_setup.specs.declared.fault.SceneFault.TheVariants.{StopMissing, StopText, App}
use Rattle.music_setup.specs.declared.fault.SetupFault.{SetupFault}
use Rattle.music_setup.specs.declared.fault.SetupFault.TheVariants as setup
use Rattle.music_setup.proofs.NoMemory.{of_app}

abbrev Fails : {A E : Type 0} → E → Result A E
Fails fault = Err fault

-- application a is one of the sections, and what is wrong with it has a text
abbrev IsNamed : Config → ℕ → AppKind → Type 0
IsNamed config a kind = (a < length config.sections) × HasKindText kind

-- ---- applications

-- the place in the fault of an application is how many stand before it
beside_place : (before a : ℕ) (reading : Result AppDecl AppKind) (kind : AppKind) → faults_as (App before) reading ≡ Err (App a kind) → before ≡ a
beside_place before a (Ok app) kind e = absurd cc
beside_place before a (Err fault) kind e = cc

-- what is wrong with it is what reading it answers
beside_kind : (before a : ℕ) (reading : Result AppDecl AppKind) (kind : AppKind) → IfErr reading HasKindText → faults_as (App before) reading ≡ Err (App a kind) → HasKindText kind
beside_kind before a (Ok app) kind is e = absurd cc
beside_kind before a (Err fault) kind is e = let same : fault ≡ kind = cc in subst HasKindText same is

-- that of the first faulty one is one of the places
first_place : (config : Config) (stop : ℕ) (before : List AppDecl) (i a : ℕ) (kind : AppKind) (section : Option (List ℕ × SettingList))
    → slice_get config.sections i ≡ section → length before ≡ i → IsSomeAnd section (λ s. app_beside config stop before s ≡ Err (App a kind)) → IsNamed config a kind
first_place config stop before i a kind None is counts faulty = absurd faulty
first_place config stop before i a kind (Some s) is counts faulty =
    let place : length before ≡ a = beside_place (length before) a (app_in config stop (length before) s.0) kind faulty in
    let within : i < length config.sections = slice_get_within config.sections i s is in
    (omega (arith, place, counts, within), beside_kind (length before) a (app_in config stop (length before) s.0) kind (of_app config stop (length before) s.0) faulty)

app_until : (config : Config) (stop a : ℕ) (kind : AppKind) → apps_until config stop ≡ Err (App a kind) → IsNamed config a kind
app_until config stop a kind e =
    let first = first_fault (app_beside config stop) config.sections (App a kind) e in
    first_place config stop first.1 first.0 a kind (slice_get config.sections first.0) refl first.2.counts first.2.faulty

-- ---- the stop

some_time : (time : Option ℕ) (a : ℕ) (kind : AppKind) → some_or time StopText ≡ Err (App a kind) → ⊥
some_time None a kind e = cc
some_time (Some time) a kind e = cc

-- a fault of the stop names no application
stop_names_none : (text : Option (List ℕ)) (a : ℕ) (kind : AppKind) → stop_in text ≡ Err (App a kind) → ⊥
unfolding stop_in
stop_names_none None a kind e = cc
stop_names_none (Some text) a kind e = some_time _ a kind e

-- ---- the whole

-- what follows a reading has no fault of its own
fault_of_first : {A B E : Type 0} (reading : Result A E) (f : A → B) (e : E) → (reading >>= λ x. Ok (f x)) ≡ Err e → reading ≡ Err e
fault_of_first (Ok x) f e is = absurd cc
fault_of_first {A = A} {E = E} (Err fault) f e is = let same : fault ≡ e = cc in ap (λ (g : E). Fails {A = A} g) same

-- the stop and the applications up to it
abbrev with_stop : ℕ → List AppDecl → ℕ × List AppDecl
with_stop stop apps = (stop, apps)

abbrev behind : Config → ℕ → Result (ℕ × List AppDecl) SceneFault
behind config stop = apps_until config stop >>= λ apps. Ok (with_stop stop apps)

behind_stop : (config : Config) (stop : Result ℕ SceneFault) (a : ℕ) (kind : AppKind) → (stop ≡ Err (App a kind) → ⊥)
    → (stop >>= behind config) ≡ Err (App a kind) → IsNamed config a kind
behind_stop config (Ok stop) a kind none e = app_until config stop a kind (fault_of_first (apps_until config stop) (with_stop stop) (App a kind) e)
behind_stop config (Err fault) a kind none e = let same : fault ≡ App a kind = cc in absurd (none (ap (λ (f : SceneFault). Fails {A = ℕ} f) same))

in_apps : (config : Config) (a : ℕ) (kind : AppKind) → apps_of config ≡ Err (App a kind) → IsNamed config a kind
unfolding apps_of
in_apps config a kind e = behind_stop config (stop_of config) a kind (stop_names_none _ a kind) e

-- a fault of a connection is none of the scene
links_are_apart : (reading : Result (List Link) MatchFault) (f : List Link → Scene) (fault : SceneFault)
    → (faults_as of_links reading >>= λ links. Ok (f links)) ≡ Err (setup.Scene fault) → ⊥
links_are_apart (Ok links) f fault e = cc
links_are_apart (Err match.Memory) f fault e = cc
links_are_apart (Err (match.Link place what)) f fault e = cc

abbrev scene_with : ℕ × List AppDecl → List Link → Scene
scene_with read links = record { stop = read.0; apps = read.1; links = links }

abbrev with_links : Config → ℕ × List AppDecl → Result Scene SetupFault
with_links config read = links_of read.1 config >>= λ links. Ok (scene_with read links)

from_apps : (config : Config) (reading : Result (ℕ × List AppDecl) SceneFault) (fault : SceneFault)
    → (faults_as setup.Scene reading >>= with_links config) ≡ Err (setup.Scene fault) → reading ≡ Err fault
from_apps config (Ok read) fault e = absurd (links_are_apart _ (scene_with read) fault e)
from_apps config (Err other) fault e = let same : other ≡ fault = cc in ap (λ (f : SceneFault). Fails {A = ℕ × List AppDecl} f) same

-- so is the application that a scene fault names
app_of_config : (config : Config) (a : ℕ) (kind : AppKind) → scene_of config ≡ Err (setup.Scene (App a kind)) → IsNamed config a kind
unfolding scene_of
app_of_config config a kind e = in_apps config a kind (from_apps config (apps_of config) (App a kind) e)

scene_fault_of_config : (config : Config) (fault : SceneFault) → scene_of config ≡ Err (setup.Scene fault) → HasText (Some config) (setup.Scene fault)
scene_fault_of_config config StopMissing e = tt
scene_fault_of_config config StopText e = tt
scene_fault_of_config config (App a kind) e = app_of_config config a kind e

-- each fault of a configuration has a text
pub fault_of_config : (config : Config) (fault : SetupFault) → IsSetupFault (scene_of config) fault → (fault ≡ setup.Memory → ⊥) → HasText (Some config) fault
fault_of_config config (setup.Text line kind) is some = absurd is
fault_of_config config (setup.Scene fault) is some = scene_fault_of_config config fault is
fault_of_config config (setup.Link place what) is some = tt
fault_of_config config (setup.Uncovered cycle) is some = absurd is
fault_of_config config setup.Memory is some = absurd (some refl)

-- The next section is read behind the applications before it.
use Rattle.std.proofs.Common.{◌≡◌, ℕ, ◌+◌, List, [], ◌∷◌, ◌++◌, length, drop, Some, Ok, Err, refl, ap, ◌∙◌}
use Rattle.std.specs.Prelude.{Result, slice_get}
use Rattle.std.proofs.lemmas.List.{drop_more}
use Rattle.std.proofs.lemmas.Option.{slice_get_within, get_or_from_slice_get}
use Rattle.text_words.specs.InTurn.{in_turn}
use Rattle.config_text.specs.Pairs.{SettingList}
use Rattle.config_text.specs.declared.config.Config.{Config}
use Rattle.scene_model.specs.declared.scene.AppDecl.{AppDecl}
use Rattle.music_setup.specs.Apps.{app_in, app_beside}
use Rattle.music_setup.specs.declared.fault.AppKind.{AppKind}
use Rattle.music_setup.specs.declared.fault.SceneFault.{SceneFault}
use Rattle.music_setup.specs.declared.fault.SceneFault.TheVariants.{App}

drop_at : {X : Type 0} (xs : List X) (i : ℕ) (x : X) → slice_get xs i ≡ Some x → drop i xs ≡ x ∷ drop (i + 1) xs
drop_at xs i x is = drop_more xs i x (slice_get_within xs i x is) ∙ ap (λ y. y ∷ drop (i + 1) xs) (get_or_from_slice_get xs i x x is)

-- what the sections from this place on give behind these applications
abbrev from_place : Config → ℕ → ℕ → List AppDecl → Result (List AppDecl) SceneFault
from_place config stop place apps = in_turn (app_beside config stop) apps (drop place config.sections)

pub next_app : (config : Config) (stop place : ℕ) (apps : List AppDecl) (section : List ℕ × SettingList) (app : AppDecl)
    → slice_get config.sections place ≡ Some section → length apps ≡ place → app_in config stop place section.0 ≡ Ok app
    → from_place config stop place apps ≡ from_place config stop (place + 1) (apps ++ app ∷ [])
next_app config stop place apps section app is counted gave = rw (drop_at config.sections place section is, counted, gave) refl

pub next_fault : (config : Config) (stop place : ℕ) (apps : List AppDecl) (section : List ℕ × SettingList) (kind : AppKind)
    → slice_get config.sections place ≡ Some section → length apps ≡ place → app_in config stop place section.0 ≡ Err kind
    → from_place config stop place apps ≡ Err (App place kind)
next_fault config stop place apps section kind is counted gave = rw (drop_at config.sections place section is, counted, gave) refl

-- Every made configuration describes an accepted scene.
use Rattle.std.proofs.Common.{◌≡◌, ◌∙◌, ℕ, ◌+◌, ◌*◌, ◌%◌, true, List, [], ◌∷◌, map, Result, Ok, Err, sym, refl, subst, arith, true≢false, ℤ, zero, suc}
use Rattle.std.specs.List.{list_all, flat_map, All}
use Rattle.std.specs.Prelude.{int_le, ◌≤ℤ◌}
use Rattle.music_base.specs.Numbers.{below}
use Rattle.scene_model.specs.Cover.{Passes}
use Rattle.scene_model.specs.Waits.{IsAccepted, stated_waits}
use Rattle.scene_model.specs.declared.scene.AppDecl.{AppDecl}
use Rattle.scene_model.specs.declared.scene.Link.{Link}
use Rattle.scene_model.specs.declared.scene.Scene.{Scene}
use Rattle.scene_model.specs.declared.wait.Wait.{Wait}
use Rattle.scene_model.proofs.Cycles.{passed_are_covered}
use lib.Signed.{le_z_yes}
use lib.Dec.{T}
use Rattle.text_words.specs.InTurn.{◌>>=◌, faults_as}
use Rattle.port_match.specs.Links.{links_of}
use Rattle.port_match.specs.declared.fault.MatchFault.{MatchFault}
use Rattle.music_setup.specs.Faults.{of_links}
use Rattle.music_setup.specs.Scenes.{scene_of}
use Rattle.music_setup.specs.declared.fault.SetupFault.{SetupFault}
use Rattle.music_setup.specs.declared.fault.SetupFault.TheVariants as setup
use Rattle.scene_make.specs.Made.{made, app_count, links_from, stop_of}
use Rattle.made_laws.specs.Accepted.{MakesAccepted}
use Rattle.made_laws.proofs.Apps.{apps_read}
use Rattle.made_laws.proofs.MadeScenes.{app_with, made_apps}
use Rattle.made_laws.proofs.Ring.{good_at, pass, passes_alone}
use Rattle.made_laws.proofs.Tested.{both}

-- ---- the applications depend on the number by its remainder by six

by_two : (n i : ℕ) → (n % 6 + i) % 2 ≡ (n + i) % 2
by_two n i = omega arith

by_three : (n i : ℕ) → (n % 6 + i) % 3 ≡ (n + i) % 3
by_three n i = omega arith

same_apps : (stop n count : ℕ) → made_apps stop (n % 6) count ≡ made_apps stop n count
same_apps stop n count = λ j. map (λ i. app_with stop (1 + by_two n i j) ((1 + by_three n i j) * 1_000_000) i) (below count)

-- ---- the links and their waits

abbrev apps : ℕ → List AppDecl
apps n = made_apps (stop_of n) n (app_count n)

abbrev links : ℕ → Result (List Link) MatchFault
links n = links_of (apps n) (flat_map (links_from (app_count n)) (below (app_count n)))

links_pass : (n : ℕ) → pass (stop_of n) (apps n) (links n) ≡ true
links_pass n =
    let good = good_at (stop_of n) (n % 7) (n % 6) (omega arith) (omega arith) in
    subst (λ apps. pass (stop_of n) apps (links_of apps (flat_map (links_from (app_count n)) (below (app_count n)))) ≡ true) (same_apps (stop_of n) n (app_count n)) good

-- ---- from the test to the law

-- one application and no potential are enough
at_most : (a b : ℤ) → int_le a b ≡ true → a ≤ℤ b
at_most a b e = le_z_yes (subst T (sym e) tt)

each_passes : (ws : List Wait) → list_all passes_alone ws ≡ true → All (Passes 1 []) ws
each_passes [] e k d lt = absurd (omega arith)
each_passes (w ∷ ws) e zero d lt = at_most _ _ (both _ _ e).0
each_passes (w ∷ ws) e (suc k) d lt = each_passes ws (both _ _ e).1 k d (omega arith)

-- the scene of these links
abbrev scene_with : ℕ → List AppDecl → Result (List Link) MatchFault → Result Scene SetupFault
scene_with stop apps links = faults_as of_links links >>= λ links. Ok (record { stop = stop; apps = apps; links = links })

accepted : (stop : ℕ) (apps : List AppDecl) (links : Result (List Link) MatchFault) → pass stop apps links ≡ true
    → (scene : Scene) × (scene_with stop apps links ≡ Ok scene) × IsAccepted scene
accepted stop apps (Ok links) e =
    let scene : Scene = record { stop = stop; apps = apps; links = links } in
    (scene, refl, passed_are_covered 1 [] (stated_waits scene) (each_passes (stated_waits scene) e))
accepted stop apps (Err fault) e = absurd (true≢false (sym e))

scene_read : (n : ℕ) → scene_of (made n) ≡ scene_with (stop_of n) (apps n) (links n)
unfolding scene_of made
scene_read n = λ j.
    faults_as setup.Scene (apps_read n j)
    >>= λ read. faults_as of_links (links_of read.1 (flat_map (links_from (app_count n)) (below (app_count n))))
    >>= λ links. Ok (record { stop = read.0; apps = read.1; links = links })

pub makes_accepted : (n : ℕ) → MakesAccepted n
makes_accepted n =
    let all = accepted (stop_of n) (apps n) (links n) (links_pass n) in
    (all.0, scene_read n ∙ all.1, all.2)

-- The connections of a made configuration join its applications, and each of their waits passes the test of potentials by
-- itself. It is computed for each number of applications and each remainder by six, whatever the stop is.
use Rattle.std.proofs.Common.{◌≡◌, ◌<◌, ℕ, ◌+◌, Bool, true, false, List, Result, Ok, Err, refl}
use Rattle.std.specs.Fmt.{digits}
use Rattle.std.specs.List.{list_all, flat_map}
use Rattle.std.specs.Prelude.{int_le, pos, ◌+ℤ◌, ◌-ℤ◌, ◌*ℤ◌}
use Rattle.index_maps.specs.Intervals.{ranks_mapping, first_shared}
use Rattle.music_base.specs.Clocks.{steps_until}
use Rattle.music_base.specs.Numbers.{below, gcd, floor_to}
use Rattle.scene_model.specs.Clocks.{tick, start, steps, latency, delay, allowance}
use Rattle.scene_model.specs.Links.{output_of, input_of, has_ends, maps_below, covers}
use Rattle.scene_model.specs.Scenes.{sender, receiver}
use Rattle.scene_model.specs.Waits.{stated_waits, block_wait, room_wait, stated}
use Rattle.scene_model.specs.declared.scene.AppDecl.{AppDecl}
use Rattle.scene_model.specs.declared.scene.Link.{Link}
use Rattle.scene_model.specs.declared.wait.Wait.{Wait}
use Rattle.port_match.specs.Links.{ends_of, fault_between, link_after, links_of}
use Rattle.port_match.specs.declared.fault.MatchFault.{MatchFault}
use Rattle.scene_make.specs.Made.{links_from}
use Rattle.made_laws.proofs.MadeScenes.{made_apps}
use Rattle.made_laws.proofs.Tested.{at_one}

-- the allowance of a wait is greater than its burden
abbrev pub passes_alone : Wait → Bool
passes_alone w = int_le (pos 0) (pos 1 *ℤ (w.allowance -ℤ w.burden) -ℤ pos 1 +ℤ pos 0 -ℤ pos 0)

-- there are links, and each wait of their scene passes alone
abbrev pub pass : ℕ → List AppDecl → Result (List Link) MatchFault → Bool
pass stop apps (Ok links) = list_all passes_alone (stated_waits (record { stop = stop; apps = apps; links = links }))
pass stop apps (Err fault) = false

-- so for a ring of 2 + k applications
abbrev pub is_good : ℕ → ℕ → ℕ → Bool
is_good stop k n =
    let apps = made_apps stop n (2 + k) in
    pass stop apps (links_of apps (flat_map (links_from (2 + k)) (below (2 + k))))

all_good : (stop : ℕ) → list_all (λ k. list_all (is_good stop k) (below 6)) (below 7) ≡ true
unfolding digits gcd floor_to ranks_mapping first_shared steps_until tick start steps latency delay allowance output_of input_of has_ends maps_below covers sender receiver block_wait room_wait stated ends_of fault_between link_after
all_good stop = refl

pub good_at : (stop k n : ℕ) → k < 7 → n < 6 → is_good stop k n ≡ true
good_at stop k n k< n< = at_one (is_good stop k) 6 (at_one (λ k. list_all (is_good stop k) (below 6)) 7 (all_good stop) k k<) n n<

-- Scenes whose applications all start at 0 and stop together: what the definitions come to there. Each stands under the name of
-- the one that it equals, and what has no start and no stop in it is shared.
use Rattle.std.specs.Prelude.{◌≡◌, ℕ, zero, suc, ◌+◌, ◌-◌, ◌*◌, ◌/◌, ◌<◌, Bool, false, ◌==◌, ◌&&◌, int_lt, nat_lt, if◌then◌else◌, List, [], ◌∷◌, length, map, ℤ, pos, ◌+ℤ◌, ◌-ℤ◌}
use Rattle.std.specs.List.{filter, flat_map}
use Rattle.music_base.specs.Clocks.{steps_until}
use Rattle.music_base.specs.Numbers.{below, count_below, floor_to, in_order}
use Rattle.music_base.specs.declared.item.Item.{Item}
use Rattle.music_base.specs.declared.item.Item.TheVariants.{Event, Value, Message}
use Rattle.index_maps.specs.Maps.{maps_index}
use Rattle.scene_model.specs.Clocks.{allowance_by, delay, latency, run_time, tick}
use Rattle.scene_model.specs.Scenes.{app_at, input_of, link_at, links_to, receiver, sender}
use Rattle.scene_model.specs.Tables.{Sent, Table, block_on, reading, sample, sent_cmp}
use Rattle.scene_model.specs.Waits.{common_divisor}
use Rattle.scene_model.specs.declared.scene.Scene.{Scene}
use Rattle.scene_model.specs.declared.wait.Wait.{Wait}
use Rattle.scene_model.specs.declared.wait.WaitKind.TheVariants.{ForBlock, ForRoom}

-- all applications start at 0 and stop at the stop of the scene
pub record RunTogether (scene : Scene) : Type 0 where
  pub starts : (a : ℕ) → a < length scene.apps → (app_at scene a).start ≡ 0
  pub stops : (a : ℕ) → a < length scene.apps → (app_at scene a).stop ≡ scene.stop

-- ---- clocks

-- each step whose clock is below the stop of the scene
unfoldable pub steps : Scene → ℕ → ℕ
steps scene a = steps_until scene.stop (tick scene a)

-- the step, from 0, in which something of this time is due
unfoldable pub due : Scene → ℕ → ℕ → ℕ
due scene c time = (time + latency scene c) / tick scene (receiver scene c)

-- the allowance of a connection, whose two clocks are the same
unfoldable pub allowance : Scene → ℕ → ℤ
allowance scene c =
    let input = input_of scene c in
    allowance_by input.kind input.interpolate (latency scene c) (delay scene c) (tick scene (sender scene c)) (tick scene (receiver scene c))

-- ---- wanted blocks

-- step j of the receiver wants block k, how many step j wants, the steps before it, and all steps
abbrev pub wants : Scene → ℕ → ℕ → ℕ → Bool
wants scene c j k = int_lt (pos (run_time scene (sender scene c) k) +ℤ allowance scene c) (pos (run_time scene (receiver scene c) (suc j)))

unfoldable pub wanted : Scene → ℕ → ℕ → ℕ
wanted scene c j = count_below (steps scene (sender scene c)) (wants scene c j)

abbrev pub wanted_before : Scene → ℕ → ℕ → ℕ
wanted_before scene c zero = 0
wanted_before scene c (suc j) = wanted scene c j

abbrev pub wanted_blocks : Scene → ℕ → ℕ
wanted_blocks scene c = wanted_before scene c (steps scene (receiver scene c))

-- ---- what a step reads

-- an item arrives in step j of connection c; what comes over it then; and the arrivals of port p of application b
abbrev pub arrives : Scene → ℕ → ℕ → Item → Bool
arrives scene c j (Event e) = due scene c e.time == j && maps_index (input_of scene c).map e.global
arrives scene c j (Message m) = due scene c m.time == j
arrives scene c j (Value global value) = false

abbrev pub coming : Scene → Table → ℕ → ℕ → List Sent
coming scene table j c =
    flat_map (λ k. map (λ item. record { item = item; app = sender scene c; port = (link_at scene c).from_port })
    (filter (arrives scene c j) (block_on scene table c k))) (below (steps scene (sender scene c)))

unfoldable pub arrivals : Scene → Table → ℕ → ℕ → ℕ → List Item
arrivals scene table b p j = map (λ (s : Sent). s.item) (in_order sent_cmp (flat_map (coming scene table j) (links_to scene b p)))

-- what step j reads of index g on connection c, and at port p of application b
abbrev pub value_on : Scene → Table → ℕ → ℕ → ℕ → ℤ
value_on scene table j g c =
    let now = run_time scene (receiver scene c) j in
    if nat_lt now (delay scene c) then pos 0
    else reading (input_of scene c).interpolate (sample scene table c g) (tick scene (sender scene c)) (now - delay scene c)

abbrev pub value_over : Scene → Table → ℕ → ℕ → List ℕ → ℤ
value_over scene table j g [] = pos 0
value_over scene table j g (c ∷ cs) = value_on scene table j g c

unfoldable pub value : Scene → Table → ℕ → ℕ → ℕ → ℕ → ℤ
value scene table b p j g = value_over scene table j g (links_to scene b p)

-- ---- waits

-- the allowance in what both ticks are multiples of, the wait for a block, and the wait for room for m blocks
abbrev pub rounded : Scene → ℕ → ℤ
rounded scene c = floor_to (common_divisor scene c) (allowance scene c)

unfoldable pub block_wait : Scene → ℕ → Wait
block_wait scene c = record {
  waiter = receiver scene c;
  awaited = sender scene c;
  link = c;
  kind = ForBlock;
  allowance = rounded scene c;
  burden = pos (tick scene (receiver scene c)) -ℤ pos (common_divisor scene c);
}

unfoldable pub room_wait : Scene → ℕ → ℕ → Wait
room_wait scene c m = record {
  waiter = sender scene c;
  awaited = receiver scene c;
  link = c;
  kind = ForRoom;
  allowance = pos ((m + 1) * tick scene (sender scene c) + tick scene (receiver scene c)) -ℤ rounded scene c;
  burden = pos 0;
}

-- The rooms of rings.
use Rattle.std.proofs.Common.{ℕ, ◌-◌, ◌<◌, ◌≤◌, arith, List, length}
use Rattle.std.specs.Prelude.{slice_index}
use Rattle.scene_model.specs.Clocks.{steps}
use Rattle.scene_model.specs.Faults.{IsFaultless}
use Rattle.scene_model.specs.Orders.{CanPut, Counts, IsSound, put_on, taken_from}
use Rattle.scene_model.specs.Scenes.{receiver, sender}
use Rattle.scene_model.specs.declared.scene.Scene.{Scene}
use Rattle.scene_model.proofs.Faultless.{connection_is, steps_are}
use Rattle.scene_model.proofs.Wanted.{wanted_before-at_most}
use Rattle.step_core.specs.Cores.{room_for}

pub finds_room : (scene : Scene) (limits : List ℕ) (s : Counts) (c : ℕ) → IsSound scene limits s → CanPut scene limits s c → put_on s c - taken_from s c < room_for scene limits c
finds_room scene limits s c sound can =
    let on = sound.on c can.link in
    let there = on.taken_were_put in
    let room = can.room in
    let wanted = can.is_wanted in
    omega arith

-- a ring of this room can be made
pub room_most : (scene : Scene) (limits : List ℕ) (c : ℕ) → IsFaultless scene → c < length scene.links → room_for scene limits c ≤ 1_000_000
room_most scene limits c fine link =
    let few : steps scene (sender scene c) ≤ 1_000_000 = steps_are scene fine (sender scene c) (connection_is scene fine c link).from_app in
    omega (arith, few, wanted_before-at_most scene c (steps scene (receiver scene c)))

pub room_least : (scene : Scene) (limits : List ℕ) (c : ℕ) → 1 ≤ slice_index limits c → 1 ≤ room_for scene limits c
room_least scene limits c some = omega arith

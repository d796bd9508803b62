use Rattle.std.proofs.Common.{◌≡◌, ℕ, ◌<◌, ◌≤◌, List, [], ◌∷◌, ◌++◌, subst, ap}
use Rattle.std.specs.Prelude.{Result, Ok, Err, IfOk}
use Rattle.music_base.specs.declared.errors.NoMemory.{NoMemory}
use Rattle.scene_model.specs.Clocks.{tick}
use Rattle.scene_model.specs.Cover.{AllCovered, HasUncovered}
use Rattle.scene_model.specs.Scenes.{sender}
use Rattle.scene_model.specs.Waits.{room_wait}
use Rattle.scene_model.specs.declared.scene.AppDecl.{AppDecl}
use Rattle.scene_model.specs.declared.scene.Scene.{Scene}
use Rattle.scene_model.specs.declared.wait.Wait.{Wait}
use Rattle.tick_plan.specs.Choices.{IsLeastAt}
use Rattle.tick_plan.specs.Room.{room_under}
use Rattle.tick_plan.proofs.SceneLimits.{IsRoomWait-of, room_under-is, step_is}
use Rattle.tick_plan.proofs.choosing.least_at.Goals as goal

pub least_limit-requires-clause-room : goal.least_limit-requires-clause-room
least_limit-requires-clause-room c =
    let s = step_is c.args.scene.now c.args.link _ c.sender_of.result.now (ap (λ (a : AppDecl). a.tick) c.behind-scene.view_is) c.sender_of.ensures in
    let n = c.len.ensures in
    let w = c.room_wait.ensures in
    rw (n, w) (IsRoomWait-of c.args.scene.now c.args.link _ c.requires.scene c.requires.link s)

-- what is found over the waits, with the wait for room as it was made
least_from : (scene : Scene) (all : List Wait) (c step : ℕ) (room : Wait) (r : Result ℕ NoMemory) → step ≡ tick scene (sender scene c) → room ≡ room_wait scene c 0 →
    IfOk r (λ m. 1 ≤ m) → IfOk r (λ m. AllCovered (all ++ room_under (record { without_room = room; step = step }) m ∷ [])) →
    IfOk r (λ m. (k : ℕ) → 1 ≤ k → k < m → HasUncovered (all ++ room_under (record { without_room = room; step = step }) k ∷ [])) →
    IfOk r (IsLeastAt scene all c)
least_from scene all c step room (Err e) is room_is some covered least = tt
least_from scene all c step room (Ok m) is room_is some covered least =
    let under : (k : ℕ) → room_under (record { without_room = room; step = step }) k ≡ room_wait scene c k = λ k. rw room_is (room_under-is scene c k step is) in
    let lists : (k : ℕ) → (all ++ room_under (record { without_room = room; step = step }) k ∷ []) ≡ (all ++ room_wait scene c k ∷ []) = λ k. ap (λ w. all ++ w ∷ []) (under k) in
    record {
      some = some;
      covered = subst AllCovered (lists m) covered;
      least = λ k from below. subst HasUncovered (lists k) (least k from below);
    }

pub returns-clause-least : goal.returns-clause-least
returns-clause-least c =
    let s = step_is c.args.scene.now c.args.link _ c.sender_of.result.now (ap (λ (a : AppDecl). a.tick) c.behind-scene.view_is) c.sender_of.ensures in
    let e = c.least_limit.ensures in
    least_from c.args.scene.now c.args.waits.now c.args.link _ _ _ s c.room_wait.ensures e.some e.covered e.least

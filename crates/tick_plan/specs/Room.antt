-- A wait for room whose limit is still to be chosen.
use Rattle.std.specs.Prelude.{ℕ, ℤ, pos, ◌+ℤ◌, ◌-ℤ◌, ◌≤◌, ◌*◌, List, slice_index}
use Rattle.scene_model.specs.Cover.{IsWithin}
use Rattle.scene_model.specs.Limits.{longest_tick}
use Rattle.scene_model.specs.declared.wait.Wait.{Wait}
use Rattle.tick_plan.specs.Heights.{rise_of}
use Rattle.tick_plan.specs.declared.room.RoomWait.{RoomWait}

-- the wait where at most m blocks are kept
abbrev pub room_under : RoomWait → ℕ → Wait
room_under room m = record room.without_room { allowance = room.without_room.allowance +ℤ pos (m * room.step) }

-- how far a wait would raise its waiter above the height that it has
abbrev pub need_of : ℕ → Wait → List ℕ → ℤ
need_of n w heights = rise_of n w +ℤ pos (slice_index heights w.awaited) -ℤ pos (slice_index heights w.waiter)

-- the wait is between two of n applications, and its numbers are within their bounds
pub record IsRoomWait (n : ℕ) (room : RoomWait) : Type 0 where
  pub within : IsWithin n room.without_room
  pub some : 1 ≤ room.step
  pub step : room.step ≤ longest_tick

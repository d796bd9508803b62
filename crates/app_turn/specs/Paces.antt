-- What the blocks that a connection's receiver wants depend on, beside its step.
use Rattle.std.specs.Prelude.{ℕ, ◌≤◌, ◌^◌}
use Rattle.std.specs.Int.RustNames.{unsigned_abs}
use Rattle.music_base.specs.Wants.{wanted}
use Rattle.scene_model.specs.Clocks.{allowance, steps, tick}
use Rattle.scene_model.specs.Scenes.{receiver, sender}
use Rattle.scene_model.specs.declared.scene.Scene.{Scene}
use Rattle.app_turn.specs.declared.needs.Pace.{Pace}

-- the pace of a connection: both ticks, how much later than its sender's clock a block may come, and how many steps the
-- sender makes
unfoldable pub pace_of : Scene → ℕ → Pace
pace_of scene c = record {
  link = c;
  send_tick = tick scene (sender scene c);
  allowance = allowance scene c;
  receive_tick = tick scene (receiver scene c);
  sent = steps scene (sender scene c);
}

-- how many blocks a step of the receiver wants
abbrev pub wanted_at : Pace → ℕ → ℕ
wanted_at pace step = wanted pace.send_tick pace.allowance pace.receive_tick pace.sent step

-- the numbers of a pace are no greater than those of a scene without a fault
pub record IsPace (pace : Pace) : Type 0 where
  pub send_tick_from : 1 ≤ pace.send_tick
  pub near : unsigned_abs pace.allowance ≤ 10 ^ 16
  pub receive_tick_to : pace.receive_tick ≤ 10 ^ 12

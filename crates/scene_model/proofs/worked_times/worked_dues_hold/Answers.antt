-- Each side computes.
use Rattle.std.proofs.Common.{refl}
use Rattle.music_base.specs.Clocks.{due_step_from}
use Rattle.scene_model.specs.Clocks.{delay, due, latency, start, tick}
use Rattle.scene_model.specs.Logs.{step_rows_in}
use Rattle.scene_model.specs.Scenes.{receiver, sender}
use Rattle.scene_model.proofs.worked_times.worked_dues_hold.Goals as goal

pub returns : goal.returns
unfolding delay due due_step_from latency receiver sender start step_rows_in tick
returns c = record {
  before = refl;
  at = refl;
  after = refl;
  dropped = refl;
  first = refl;
  past = refl;
  own_latency = refl;
  own_delay = refl;
  first_sample = refl;
  first_clock = refl;
  row = refl;
}

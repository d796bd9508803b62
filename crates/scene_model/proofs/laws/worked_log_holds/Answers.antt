-- Each side computes.
use Rattle.std.proofs.Common.{refl}
use Rattle.std.specs.Fmt.{digits}
use Rattle.music_base.specs.Clocks.{due_step_from, steps_until}
use Rattle.scene_model.specs.Clocks.{allowance, latency, delay, start, tick, steps, wanted, due}
use Rattle.scene_model.specs.Scenes.{sender, receiver}
use Rattle.scene_model.specs.Tables.{arrivals, value}
use Rattle.scene_model.specs.Turns.{times_below, times_between, saturated, turn}
use Rattle.scene_model.specs.Lives.{step_output, history}
use Rattle.scene_model.specs.Logs.{step_rows, rows, line_of, log_of, text_of, header}
use Rattle.scene_model.proofs.laws.worked_log_holds.Goals as goal

pub returns : goal.returns
unfolding allowance latency delay start tick steps steps_until wanted due due_step_from sender receiver arrivals value times_below times_between saturated turn step_output history step_rows rows line_of log_of text_of header digits
returns c = refl

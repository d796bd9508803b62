use Rattle.std.proofs.Common.{refl}
use Rattle.music_base.specs.Numbers.{gcd, floor_to}
use Rattle.scene_model.specs.Clocks.{allowance, latency, delay, start, tick}
use Rattle.scene_model.specs.Scenes.{sender, receiver}
use Rattle.scene_model.specs.Waits.{block_wait}
use Rattle.scene_model.proofs.WorkedTimes.{apart_and_a_tick-uncovered, apart_and_late-accepted, apart_and_late-limits, apart_without_latency-uncovered, together_and_late-uncovered}
use Rattle.scene_model.proofs.worked_times.worked_starts_in_cycles_hold.Goals as goal

pub returns : goal.returns
unfolding allowance latency delay start tick sender receiver gcd floor_to block_wait
returns c = record {
  covered = apart_and_late-accepted;
  covered_limits = apart_and_late-limits;
  covered_for_b = refl;
  covered_for_a = refl;
  uncovered_together = together_and_late-uncovered;
  together_for_b = refl;
  together_for_a = refl;
  uncovered = apart_and_a_tick-uncovered;
  uncovered_for_b = refl;
  uncovered_for_a = refl;
  without_latency = apart_without_latency-uncovered;
  without_latency_for_b = refl;
  without_latency_for_a = refl;
}

use Rattle.std.proofs.Common.{refl}
use Rattle.std.specs.Fmt.{digits}
use Rattle.music_base.specs.Numbers.{floor_to, gcd}
use Rattle.scene_model.specs.Clocks.{allowance, delay, latency, tick, start}
use Rattle.scene_model.specs.Scenes.{receiver, sender}
use Rattle.scene_model.specs.Waits.{block_wait, room_wait}
use Rattle.cycle_check.specs.CycleTexts.{cycle_text, sums_line, wait_line}
use Rattle.cycle_check.proofs.laws.worked_texts_hold.Goals as goal

pub returns : goal.returns
unfolding block_wait room_wait sender receiver start tick latency delay allowance gcd floor_to cycle_text sums_line wait_line digits
returns c = record { no_latency = refl; short_latency = refl; uneven_ticks = refl; to_itself = refl; little_room = refl; apart_without_latency = refl }

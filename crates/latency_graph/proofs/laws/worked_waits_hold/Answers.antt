use Rattle.std.proofs.Common.{refl}
use Rattle.music_base.specs.Numbers.{floor_to, gcd}
use Rattle.scene_model.specs.Clocks.{allowance, delay, latency, start, tick}
use Rattle.scene_model.specs.Scenes.{receiver, sender}
use Rattle.scene_model.specs.Waits.{block_wait, room_wait}
use Rattle.latency_graph.proofs.laws.worked_waits_hold.Goals as goal

pub returns : goal.returns
unfolding block_wait room_wait sender receiver start tick latency delay allowance gcd floor_to
returns c = refl

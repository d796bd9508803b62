use Rattle.std.proofs.Common.{◌≡◌, [], map}
use Rattle.circular_buffer.specs.Buffer.{buffer}
use Rattle.music_base.specs.Numbers.{below}
use Rattle.step_core.specs.Cores.{room_for}
use Rattle.step_core.proofs.starts.make_rings.Given as goal

abbrev pub invariant-loop-link : goal.invariant-loop-link
invariant-loop-link l = l.rings.items ≡ map (λ c. buffer [] (room_for l.scene l.limits c)) (below l.link)

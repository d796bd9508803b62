use Rattle.std.proofs.Common.{◌≤◌, ◌-◌, length}
use Rattle.app_turn.proofs.rows.place_by_halves.Given as goal

abbrev pub invariant-loop-low : goal.invariant-loop-low
invariant-loop-low l = l.high ≤ length l.items

abbrev pub decreases-loop-low : goal.decreases-loop-low
decreases-loop-low l = l.high - l.low

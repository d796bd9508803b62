-- Cycles and limits of scenes whose applications start at times of their own, or whose connections state something.
use Rattle.std.proofs.Common.{ℕ, zero, suc, ◌<◌, refl, arith, [], ◌∷◌, pos}
use Rattle.std.proofs.lemmas.Int.{ints}
use Rattle.music_base.specs.Numbers.{gcd, floor_to}
use Rattle.scene_model.specs.Clocks.{allowance, latency, delay, start, tick}
use Rattle.scene_model.specs.Scenes.{sender, receiver}
use Rattle.scene_model.specs.Cover.{IsReportable}
use Rattle.scene_model.specs.Waits.{AreLimits, IsAccepted, IsLimit, block_wait, room_wait, stated, stated_waits}
use Rattle.scene_model.specs.WorkedTimes.{apart_and_a_tick, apart_and_late, apart_without_latency, keeps_two, late_back, together_and_late}
use Rattle.scene_model.specs.WorkedWaits.{for_each_other}
use Rattle.scene_model.proofs.WorkedCycles.{covered_by, latency_of_a_tick-accepted, uncovered_pair}
use Rattle.scene_model.proofs.WorkedLimits.{pair-first, pair-second}

-- ---- scenes that have the waits of `latency_of_a_tick`

pub apart_and_late-accepted : IsAccepted apart_and_late
unfolding allowance latency delay start tick sender receiver gcd floor_to block_wait room_wait stated
apart_and_late-accepted = latency_of_a_tick-accepted

pub late_back-accepted : IsAccepted late_back
unfolding allowance latency delay start tick sender receiver gcd floor_to block_wait room_wait stated
late_back-accepted = latency_of_a_tick-accepted

apart_and_late-limit : (c : ℕ) → c < 2 → IsLimit apart_and_late (1 ∷ 1 ∷ []) c (stated apart_and_late c)
unfolding allowance latency delay start tick sender receiver gcd floor_to block_wait room_wait stated
apart_and_late-limit zero lt = record { some = omega arith; covered = pair-first; least = λ less low high. absurd (omega arith) }
apart_and_late-limit (suc zero) lt = record { some = omega arith; covered = pair-second; least = λ less low high. absurd (omega arith) }
apart_and_late-limit (suc (suc c)) lt = absurd (omega arith)

late_back-limit : (c : ℕ) → c < 2 → IsLimit late_back (1 ∷ 1 ∷ []) c (stated late_back c)
unfolding allowance latency delay start tick sender receiver gcd floor_to block_wait room_wait stated
late_back-limit zero lt = record { some = omega arith; covered = pair-first; least = λ less low high. absurd (omega arith) }
late_back-limit (suc zero) lt = record { some = omega arith; covered = pair-second; least = λ less low high. absurd (omega arith) }
late_back-limit (suc (suc c)) lt = absurd (omega arith)

pub apart_and_late-limits : AreLimits apart_and_late (1 ∷ 1 ∷ [])
apart_and_late-limits = record { counted = refl; each = apart_and_late-limit }

pub late_back-limits : AreLimits late_back (1 ∷ 1 ∷ [])
late_back-limits = record { counted = refl; each = late_back-limit }

-- ---- cycles that are not covered

pub together_and_late-uncovered : IsReportable (stated_waits together_and_late) (for_each_other together_and_late)
unfolding allowance latency delay start tick sender receiver gcd floor_to block_wait room_wait stated
together_and_late-uncovered = uncovered_pair (stated_waits together_and_late) (block_wait together_and_late 1) (block_wait together_and_late 0) refl refl (omega arith) (1, omega arith, refl) (0, omega arith, refl) (omega (arith, ints))

pub apart_and_a_tick-uncovered : IsReportable (stated_waits apart_and_a_tick) (for_each_other apart_and_a_tick)
unfolding allowance latency delay start tick sender receiver gcd floor_to block_wait room_wait stated
apart_and_a_tick-uncovered = uncovered_pair (stated_waits apart_and_a_tick) (block_wait apart_and_a_tick 1) (block_wait apart_and_a_tick 0) refl refl (omega arith) (1, omega arith, refl) (0, omega arith, refl) (omega (arith, ints))

pub apart_without_latency-uncovered : IsReportable (stated_waits apart_without_latency) (for_each_other apart_without_latency)
unfolding allowance latency delay start tick sender receiver gcd floor_to block_wait room_wait stated
apart_without_latency-uncovered = uncovered_pair (stated_waits apart_without_latency) (block_wait apart_without_latency 1) (block_wait apart_without_latency 0) refl refl (omega arith) (1, omega arith, refl) (0, omega arith, refl) (omega (arith, ints))

-- ---- a connection that states how many blocks it keeps

pub keeps_two-accepted : IsAccepted keeps_two
unfolding allowance latency delay start tick sender receiver gcd floor_to block_wait room_wait stated
keeps_two-accepted = covered_by 2 (pos 0 ∷ pos 18_000_001 ∷ []) (stated_waits keeps_two) (omega (arith, ints), (omega (arith, ints), tt))

keeps_two-limit : (c : ℕ) → c < 1 → IsLimit keeps_two (2 ∷ []) c (stated keeps_two c)
unfolding sender receiver stated
keeps_two-limit zero lt = refl
keeps_two-limit (suc c) lt = absurd (omega arith)

pub keeps_two-limits : AreLimits keeps_two (2 ∷ [])
keeps_two-limits = record { counted = refl; each = keeps_two-limit }

-- Limits of scenes that can be followed by hand.
use Rattle.std.proofs.Common.{ℕ, zero, suc, ◌<◌, ◌≤◌, refl, arith, [], ◌∷◌, pos, None, Some}
use Rattle.std.specs.Prelude.{◌≤ℤ◌, neg_ℤ, IfSome}
use Rattle.std.proofs.lemmas.Int.{ints}
use Rattle.std.proofs.lemmas.List.Elements.{All-from_recursion}
use Rattle.music_base.specs.Numbers.{gcd, floor_to}
use Rattle.scene_model.specs.Clocks.{allowance, latency, delay, start, tick}
use Rattle.scene_model.specs.Scenes.{sender, receiver}
use Rattle.scene_model.specs.Cover.{AllCovered, HasUncovered, Passes}
use Rattle.scene_model.specs.Waits.{waits, stated, stated_limits, block_wait, room_wait, IsAccepted, IsLimit, AreLimits, Fits, greatest_limit, greatest_potential}
use Rattle.scene_model.specs.WellFormed.{IsWellFormed}
use Rattle.scene_model.specs.WorkedScenes.{slow_receiver}
use Rattle.scene_model.specs.WorkedWaits.{latency_of_a_tick, two_ways}
use Rattle.scene_model.proofs.WorkedCycles.{covered_by, uncovered_pair}

-- ---- a receiver whose tick is ten of the sender's

slow_receiver-limit : (c : ℕ) → c < 1 → IsLimit slow_receiver (1 ∷ []) c (stated slow_receiver c)
unfolding allowance latency delay start tick sender receiver gcd floor_to block_wait room_wait stated
slow_receiver-limit zero lt = record {
  some = omega arith;
  covered = covered_by 2 (pos 0 ∷ pos 18_000_001 ∷ []) (block_wait slow_receiver 0 ∷ room_wait slow_receiver 0 1 ∷ []) (omega (arith, ints), (omega (arith, ints), tt));
  least = λ less low high. absurd (omega arith);
}
slow_receiver-limit (suc c) lt = absurd (omega arith)

pub slow_receiver-limits : AreLimits slow_receiver (1 ∷ [])
slow_receiver-limits = record { counted = refl; each = slow_receiver-limit }

-- ---- two connections, of which the second is late

two_ways-first : AllCovered (waits (two_ways None) (Some 1 ∷ None ∷ []))
unfolding allowance latency delay start tick sender receiver gcd floor_to block_wait room_wait
two_ways-first = covered_by 2 (pos 0 ∷ pos 1 ∷ []) (waits (two_ways None) (Some 1 ∷ None ∷ [])) (omega (arith, ints), (omega (arith, ints), (omega (arith, ints), tt)))

two_ways-second : AllCovered (waits (two_ways None) (Some 1 ∷ Some 4 ∷ []))
unfolding allowance latency delay start tick sender receiver gcd floor_to block_wait room_wait
two_ways-second = covered_by 2 (pos 0 ∷ pos 1 ∷ []) (waits (two_ways None) (Some 1 ∷ Some 4 ∷ [])) (omega (arith, ints), (omega (arith, ints), (omega (arith, ints), (omega (arith, ints), tt))))

two_ways-fewer : (m : ℕ) → 1 ≤ m → m < 4 → HasUncovered (waits (two_ways None) (Some 1 ∷ Some m ∷ []))
unfolding allowance latency delay start tick sender receiver gcd floor_to block_wait room_wait
two_ways-fewer m low high = (
  room_wait (two_ways None) 1 m ∷ block_wait (two_ways None) 0 ∷ [],
  (uncovered_pair (waits (two_ways None) (Some 1 ∷ Some m ∷ [])) (room_wait (two_ways None) 1 m) (block_wait (two_ways None) 0) refl refl (omega arith) (3, omega arith, refl) (0, omega arith, refl) (omega (arith, ints))).uncovered,
)

two_ways-limit : (c : ℕ) → c < 2 → IsLimit (two_ways None) (1 ∷ 4 ∷ []) c (stated (two_ways None) c)
unfolding sender receiver stated
two_ways-limit zero lt = record { some = omega arith; covered = two_ways-first; least = λ less low high. absurd (omega arith) }
two_ways-limit (suc zero) lt = record { some = omega arith; covered = two_ways-second; least = two_ways-fewer }
two_ways-limit (suc (suc c)) lt = absurd (omega arith)

pub two_ways-limits : AreLimits (two_ways None) (1 ∷ 4 ∷ [])
two_ways-limits = record { counted = refl; each = two_ways-limit }

pub two_ways-accepted : IsAccepted (two_ways None)
unfolding allowance latency delay start tick sender receiver gcd floor_to block_wait room_wait stated
two_ways-accepted = covered_by 2 (pos 0 ∷ pos 1 ∷ []) (waits (two_ways None) (stated_limits (two_ways None))) (omega (arith, ints), (omega (arith, ints), tt))

pub two_ways-fits : Fits (two_ways None) (1 ∷ 4 ∷ []) (pos 0 ∷ pos 1 ∷ [])
unfolding allowance latency delay start tick sender receiver gcd floor_to block_wait room_wait
two_ways-fits = record {
  limits_counted = refl;
  potentials_counted = refl;
  limits_from = All-from_recursion (λ m. 1 ≤ m) (1 ∷ 4 ∷ []) (omega arith, (omega arith, tt));
  limits_to = All-from_recursion (λ m. m ≤ greatest_limit) (1 ∷ 4 ∷ []) (omega arith, (omega arith, tt));
  potentials_from = All-from_recursion (λ p. neg_ℤ (pos greatest_potential) ≤ℤ p) (pos 0 ∷ pos 1 ∷ []) (omega (arith, ints), (omega (arith, ints), tt));
  potentials_to = All-from_recursion (λ p. p ≤ℤ pos greatest_potential) (pos 0 ∷ pos 1 ∷ []) (omega (arith, ints), (omega (arith, ints), tt));
  passed = All-from_recursion (Passes 2 (pos 0 ∷ pos 1 ∷ [])) (waits (two_ways None) (Some 1 ∷ Some 4 ∷ [])) (omega (arith, ints), (omega (arith, ints), (omega (arith, ints), (omega (arith, ints), tt))));
}

pub two_ways-well_formed : IsWellFormed (two_ways None)
unfolding tick sender receiver stated
two_ways-well_formed = record { ticks = ticks; senders = senders; receivers = receivers; room = room }
  where
    ticks : (a : ℕ) → a < 2 → 1 ≤ tick (two_ways None) a
    ticks zero lt = omega arith
    ticks (suc zero) lt = omega arith
    ticks (suc (suc a)) lt = absurd (omega arith)

    senders : (c : ℕ) → c < 2 → sender (two_ways None) c < 2
    senders zero lt = omega arith
    senders (suc zero) lt = omega arith
    senders (suc (suc c)) lt = absurd (omega arith)

    receivers : (c : ℕ) → c < 2 → receiver (two_ways None) c < 2
    receivers zero lt = omega arith
    receivers (suc zero) lt = omega arith
    receivers (suc (suc c)) lt = absurd (omega arith)

    room : (c : ℕ) → c < 2 → IfSome (stated (two_ways None) c) (λ m. 1 ≤ m)
    room zero lt = tt
    room (suc zero) lt = tt
    room (suc (suc c)) lt = absurd (omega arith)

-- ---- where the late one states how much is buffered

four_ways-first : AllCovered (waits (two_ways (Some 4)) (Some 1 ∷ Some 4 ∷ []))
unfolding allowance latency delay start tick sender receiver gcd floor_to block_wait room_wait
four_ways-first = covered_by 2 (pos 0 ∷ pos 1 ∷ []) (waits (two_ways (Some 4)) (Some 1 ∷ Some 4 ∷ [])) (omega (arith, ints), (omega (arith, ints), (omega (arith, ints), (omega (arith, ints), tt))))

four_ways-limit : (c : ℕ) → c < 2 → IsLimit (two_ways (Some 4)) (1 ∷ 4 ∷ []) c (stated (two_ways (Some 4)) c)
unfolding sender receiver stated
four_ways-limit zero lt = record { some = omega arith; covered = four_ways-first; least = λ less low high. absurd (omega arith) }
four_ways-limit (suc zero) lt = refl
four_ways-limit (suc (suc c)) lt = absurd (omega arith)

pub four_ways-limits : AreLimits (two_ways (Some 4)) (1 ∷ 4 ∷ [])
four_ways-limits = record { counted = refl; each = four_ways-limit }

-- ---- two applications that send to each other

pub pair-first : AllCovered (waits latency_of_a_tick (Some 1 ∷ None ∷ []))
unfolding allowance latency delay start tick sender receiver gcd floor_to block_wait room_wait
pair-first = covered_by 2 (pos 0 ∷ pos 1 ∷ []) (waits latency_of_a_tick (Some 1 ∷ None ∷ [])) (omega (arith, ints), (omega (arith, ints), (omega (arith, ints), tt)))

pub pair-second : AllCovered (waits latency_of_a_tick (Some 1 ∷ Some 1 ∷ []))
unfolding allowance latency delay start tick sender receiver gcd floor_to block_wait room_wait
pair-second = covered_by 2 (pos 0 ∷ pos 1 ∷ []) (waits latency_of_a_tick (Some 1 ∷ Some 1 ∷ [])) (omega (arith, ints), (omega (arith, ints), (omega (arith, ints), (omega (arith, ints), tt))))

pair-limit : (c : ℕ) → c < 2 → IsLimit latency_of_a_tick (1 ∷ 1 ∷ []) c (stated latency_of_a_tick c)
unfolding sender receiver stated
pair-limit zero lt = record { some = omega arith; covered = pair-first; least = λ less low high. absurd (omega arith) }
pair-limit (suc zero) lt = record { some = omega arith; covered = pair-second; least = λ less low high. absurd (omega arith) }
pair-limit (suc (suc c)) lt = absurd (omega arith)

pub pair-limits : AreLimits latency_of_a_tick (1 ∷ 1 ∷ [])
pair-limits = record { counted = refl; each = pair-limit }

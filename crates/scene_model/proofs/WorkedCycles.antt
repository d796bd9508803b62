-- Cycles of scenes that can be followed by hand.
use Rattle.std.proofs.Common.{◌≡◌, ℕ, ◌<◌, ◌≤◌, refl, arith, List, [], ◌∷◌, ℤ, pos}
use Rattle.std.specs.Prelude.{Contains, ◌≤ℤ◌}
use Rattle.std.specs.List.{AllByRecursion}
use Rattle.std.proofs.lemmas.Bool.Decides.{nat_tests}
use Rattle.std.proofs.lemmas.Int.{ints}
use Rattle.std.proofs.lemmas.List.Elements.{All-nil, All-cons, All-from_recursion}
use Rattle.music_base.specs.Numbers.{gcd, floor_to}
use Rattle.scene_model.specs.Clocks.{allowance, latency, delay, start, tick}
use Rattle.scene_model.specs.Scenes.{sender, receiver}
use Rattle.scene_model.specs.Cover.{AllCovered, Passes, IsReportable, allowances, burdens}
use Rattle.scene_model.specs.Waits.{stated, stated_waits, block_wait, room_wait, IsAccepted}
use Rattle.scene_model.specs.declared.wait.Wait.{Wait}
use Rattle.scene_model.specs.WorkedWaits.{for_each_other, for_itself, for_room_and_block, latency_of_a_tick, little_room, no_latency, short_latency, to_itself, to_itself_late, uneven_but_late, uneven_ticks}
use Rattle.scene_model.proofs.Cycles.{passed_are_covered}

-- ---- cycles of one and of two waits

uncovered_alone : (all : List Wait) (w : Wait) → w.awaited ≡ w.waiter → Contains all w → w.allowance ≤ℤ w.burden → IsReportable all (w ∷ [])
uncovered_alone all w round there low = record {
  uncovered = record { cycle_of = record { closed = round; among = All-cons (Contains all) w [] there (All-nil (Contains all)) }; uncovered = omega (arith, ints) };
  once = λ a. grind (arith, nat_tests);
  least = All-nil (λ (v : Wait). w.waiter ≤ v.waiter);
}

pub uncovered_pair : (all : List Wait) (w v : Wait) → w.awaited ≡ v.waiter → v.awaited ≡ w.waiter → w.waiter < v.waiter → Contains all w → Contains all v
    → allowances (w ∷ v ∷ []) ≤ℤ burdens (w ∷ v ∷ []) → IsReportable all (w ∷ v ∷ [])
uncovered_pair all w v there back less has_w has_v low = record {
  uncovered = record {
    cycle_of = record { closed = (meets, back); among = All-cons (Contains all) w (v ∷ []) has_w (All-cons (Contains all) v [] has_v (All-nil (Contains all))) };
    uncovered = low;
  };
  once = λ a. grind (arith, nat_tests);
  least = All-cons (λ (u : Wait). w.waiter ≤ u.waiter) v [] (omega arith) (All-nil (λ (u : Wait). w.waiter ≤ u.waiter));
}
  where
    meets : v.waiter ≡ w.awaited
    meets = cc

-- ---- waits that pass

pub covered_by : (n : ℕ) (potentials : List ℤ) (all : List Wait) → AllByRecursion (Passes n potentials) all → AllCovered all
covered_by n potentials all passed = passed_are_covered n potentials all (All-from_recursion (Passes n potentials) all passed)

-- ---- two applications that send to each other

pub no_latency-uncovered : IsReportable (stated_waits no_latency) (for_each_other no_latency)
unfolding allowance latency delay start tick sender receiver gcd floor_to block_wait room_wait stated
no_latency-uncovered = uncovered_pair (stated_waits no_latency) (block_wait no_latency 1) (block_wait no_latency 0) refl refl (omega arith) (1, omega arith, refl) (0, omega arith, refl) (omega (arith, ints))

pub short_latency-uncovered : IsReportable (stated_waits short_latency) (for_each_other short_latency)
unfolding allowance latency delay start tick sender receiver gcd floor_to block_wait room_wait stated
short_latency-uncovered = uncovered_pair (stated_waits short_latency) (block_wait short_latency 1) (block_wait short_latency 0) refl refl (omega arith) (1, omega arith, refl) (0, omega arith, refl) (omega (arith, ints))

pub uneven_ticks-uncovered : IsReportable (stated_waits uneven_ticks) (for_each_other uneven_ticks)
unfolding allowance latency delay start tick sender receiver gcd floor_to block_wait room_wait stated
uneven_ticks-uncovered = uncovered_pair (stated_waits uneven_ticks) (block_wait uneven_ticks 1) (block_wait uneven_ticks 0) refl refl (omega arith) (1, omega arith, refl) (0, omega arith, refl) (omega (arith, ints))

pub latency_of_a_tick-accepted : IsAccepted latency_of_a_tick
unfolding allowance latency delay start tick sender receiver gcd floor_to block_wait room_wait stated
latency_of_a_tick-accepted = covered_by 2 (pos 0 ∷ pos 1 ∷ []) (stated_waits latency_of_a_tick) (omega (arith, ints), (omega (arith, ints), tt))

pub uneven_but_late-accepted : IsAccepted uneven_but_late
unfolding allowance latency delay start tick sender receiver gcd floor_to block_wait room_wait stated
uneven_but_late-accepted = covered_by 2 (pos 0 ∷ pos 5_000_000 ∷ []) (stated_waits uneven_but_late) (omega (arith, ints), (omega (arith, ints), tt))

-- ---- one application that sends to itself

pub to_itself-uncovered : IsReportable (stated_waits to_itself) (for_itself to_itself)
unfolding allowance latency delay start tick sender receiver gcd floor_to block_wait room_wait stated
to_itself-uncovered = uncovered_alone (stated_waits to_itself) (block_wait to_itself 0) refl (0, omega arith, refl) (omega (arith, ints))

pub to_itself_late-accepted : IsAccepted to_itself_late
unfolding allowance latency delay start tick sender receiver gcd floor_to block_wait room_wait stated
to_itself_late-accepted = covered_by 1 (pos 0 ∷ []) (stated_waits to_itself_late) (omega (arith, ints), tt)

-- ---- two connections, of which the second has too little room

pub little_room-uncovered : IsReportable (stated_waits little_room) (for_room_and_block little_room)
unfolding allowance latency delay start tick sender receiver gcd floor_to block_wait room_wait stated
little_room-uncovered =
    uncovered_pair (stated_waits little_room) (room_wait little_room 1 3) (block_wait little_room 0) refl refl (omega arith) (2, omega arith, refl) (0, omega arith, refl) (omega (arith, ints))

use Rattle.std.proofs.Common.{◌≡◌, ℕ, zero, suc, ◌<◌, refl, arith, [], ◌∷◌}
use Rattle.std.specs.Prelude.{slice_index, min}
use Rattle.music_base.specs.Clocks.{steps_until}
use Rattle.scene_model.specs.Clocks.{allowance, latency, delay, start, tick, steps, wanted, wanted_blocks}
use Rattle.scene_model.specs.Scenes.{sender, receiver}
use Rattle.scene_model.specs.Orders.{IsLawfulFrom, AllFinished, after_all, opening_counts}
use Rattle.scene_model.specs.WorkedOrders.{one_step, one_step_order}
use Rattle.scene_model.proofs.worked_orders.worked_order_holds.Goals as goal

-- there is one connection
only : (P : ℕ → Type 0) → P 0 → (c : ℕ) → c < 1 → P c
only P p zero lt = p
only P p (suc c) lt = absurd (omega arith)

lawful : IsLawfulFrom one_step (1 ∷ []) (opening_counts one_step) one_step_order
unfolding allowance latency delay start tick steps steps_until wanted sender receiver
lawful = (
  record { app = omega arith; step_left = omega arith; all_taken = only (λ c. receiver one_step c ≡ 0 → slice_index (0 ∷ []) c ≡ wanted one_step c 0) (λ e. absurd (omega arith)); all_put = only (λ c. sender one_step c ≡ 0 → slice_index (0 ∷ []) c ≡ min 0 (wanted_blocks one_step c)) (λ e. refl) },
  (
    record { link = omega arith; made = omega arith; is_wanted = omega arith; room = omega arith },
    (
      record { link = omega arith; there = omega arith; step_left = omega arith; is_wanted = omega arith },
      (
        record { app = omega arith; step_left = omega arith; all_taken = only (λ c. receiver one_step c ≡ 1 → slice_index (1 ∷ []) c ≡ wanted one_step c 0) (λ e. refl); all_put = only (λ c. sender one_step c ≡ 1 → slice_index (1 ∷ []) c ≡ min 0 (wanted_blocks one_step c)) (λ e. absurd (omega arith)) },
        tt,
      ),
    ),
  ),
)

finished : AllFinished one_step (after_all (opening_counts one_step) one_step_order)
unfolding allowance latency delay start tick steps steps_until wanted sender receiver
finished zero lt = record { all_run = refl; all_put = only (λ c. sender one_step c ≡ 0 → slice_index (1 ∷ []) c ≡ wanted_blocks one_step c) (λ e. refl) }
finished (suc zero) lt = record { all_run = refl; all_put = only (λ c. sender one_step c ≡ 1 → slice_index (1 ∷ []) c ≡ wanted_blocks one_step c) (λ e. absurd (omega arith)) }
finished (suc (suc a)) lt = absurd (omega arith)

pub returns : goal.returns
returns c = record { lawful = (refl, lawful); finished = finished }

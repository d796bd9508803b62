-- Due in a step by comparing times: with the clocks of that step and of the next one, each less the latency.
use Rattle.std.proofs.Common.{ℕ, suc, ◌+◌, ◌-◌, ◌*◌, ◌<◌, ◌≤◌, ◌≡◌, ◌↔◌, ◌⊎◌, inl, inr, min, refl, sym, ◌∙◌, arith, true, false, not, ◌&&◌, Option, None, Some}
use Rattle.std.specs.Prelude.{nat_le, nat_lt}
use Rattle.std.proofs.lemmas.Bool.{cases_Bool, cases_lt, le-leb, lt-leb}
use Rattle.std.proofs.lemmas.Bool.Decides.{nat_tests}
use Rattle.music_base.specs.Clocks.{due_step_from}
use Rattle.scene_model.specs.Due.{is_step_from}
use Rattle.scene_model.specs.Tables.{is_step}
use Rattle.scene_model.proofs.ByClock.{due_by_clock}

-- the greatest number of 64 bits, at which sums stay
abbrev pub most : ℕ
most = 18_446_744_073_709_551_615

-- from a clock on, where that clock stays at the greatest number if it would be past it
pub window_from : (time late start tick step clock : ℕ) → 1 ≤ tick → late ≤ 10_000_000_000_000_000 → time ≤ 10_000_000_000_000_000 → clock ≡ min (start + step * tick) most
    → nat_le (clock - late) time ≡ is_step_from step (due_step_from time late start tick)
window_from time late start tick step clock some late_short short is = go (cases_lt time (clock - late)) (cases_Bool (is_step_from step (due_step_from time late start tick)))
  where
    by : (is_step_from step (due_step_from time late start tick) ≡ true) ↔ (start + step * tick ≤ time + late)
    by = due_by_clock time late start tick step some

    go : (time < clock - late) ⊎ (clock - late ≤ time) → (is_step_from step (due_step_from time late start tick) ≡ true) ⊎ (is_step_from step (due_step_from time late start tick) ≡ false)
        → nat_le (clock - late) time ≡ is_step_from step (due_step_from time late start tick)
    go (inl before) (inl due) = absurd (let le = by.0 due in omega (arith, le, before, is))
    go (inl before) (inr past) = lt-leb (clock - late) time before ∙ sym past
    go (inr since) (inl due) = le-leb (clock - late) time since ∙ sym due
    go (inr since) (inr past) = let due = by.1 (omega (arith, since, is, late_short, short)) in cc

-- in a step is from it on, and not from the next one on
in_step : (j : ℕ) (d : Option ℕ) → (is_step_from j d && not (is_step_from (suc j) d)) ≡ is_step j d
in_step j None = refl
in_step j (Some step) = grind (arith, nat_tests)

pub window_within : (time late start tick step clock next : ℕ) → 1 ≤ tick → late ≤ 10_000_000_000_000_000 → time ≤ 10_000_000_000_000_000 → clock ≡ min (start + step * tick) most → next ≡ min (clock + tick) most
    → (nat_le (clock - late) time && nat_lt time (next - late)) ≡ is_step step (due_step_from time late start tick)
window_within time late start tick step clock next some late_short short is then =
    let first = window_from time late start tick step clock some late_short short is in
    let after : next ≡ min (start + suc step * tick) most = omega (arith, is, then) in
    let second = window_from time late start tick (suc step) next some late_short short after in
    rw (first, not_from time (next - late), second) (in_step step (due_step_from time late start tick))
  where
    not_from : (x y : ℕ) → nat_lt x y ≡ not (nat_le y x)
    not_from x y = grind (arith, nat_tests)

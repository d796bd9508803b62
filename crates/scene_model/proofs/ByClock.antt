-- Due from a step on is: not before the clock of that step.
use Rattle.std.proofs.Common.{ℕ, ◌+◌, ◌-◌, ◌*◌, ◌/◌, ◌<◌, ◌≤◌, ◌≡◌, ◌↔◌, ◌⊎◌, inl, inr, arith, true, false}
use Rattle.std.specs.Prelude.{nat_lt}
use Rattle.std.proofs.lemmas.Bool.{cases_lt, leb-true, le-leb, le-ltb, lt-ltb}
use Rattle.std.proofs.Math.Nat.{le-div_iff_mul-le}
use Rattle.music_base.specs.Clocks.{due_step_from}
use Rattle.scene_model.specs.Clocks.{clock, due, latency, start, tick}
use Rattle.scene_model.specs.Due.{is_step_from}
use Rattle.scene_model.specs.Faults.{IsFaultless}
use Rattle.scene_model.specs.Scenes.{receiver}
use Rattle.scene_model.specs.declared.scene.Scene.{Scene}
use Rattle.scene_model.proofs.WellFormedScenes.{well_formed}
use Rattle.scene_model.proofs.Wanted.{tick_some}

pub due_by_clock : (time late start tick step : ℕ) → 1 ≤ tick → (is_step_from step (due_step_from time late start tick) ≡ true) ↔ (start + step * tick ≤ time + late)
unfolding due_step_from
due_by_clock time late start tick step some = go (cases_lt (time + late) start)
  where
    go : (time + late < start) ⊎ (start ≤ time + late) → (is_step_from step (due_step_from time late start tick) ≡ true) ↔ (start + step * tick ≤ time + late)
    go (inl before) = let t : nat_lt (time + late) start ≡ true = lt-ltb (time + late) start before in rw t ((λ h. absurd cc), (λ le. absurd (omega (arith, le, before))))
    go (inr since) =
        let t : nat_lt (time + late) start ≡ false = le-ltb (time + late) start since in
        let by = le-div_iff_mul-le {k = tick} {x = step} {y = time + late - start} some in
        rw t (
          (λ h. let l : step * tick ≤ time + late - start = by.0 (leb-true step ((time + late - start) / tick) h) in omega (arith, l, since)),
          (λ le. le-leb step ((time + late - start) / tick) (by.1 (omega (arith, le)))),
        )

pub scene_due_by_clock : (scene : Scene) (c j time : ℕ) → IsFaultless scene → (is_step_from j (due scene c time) ≡ true) ↔ (clock scene (receiver scene c) j ≤ time + latency scene c)
unfolding due
scene_due_by_clock scene c j time ok = due_by_clock time (latency scene c) (start scene (receiver scene c)) (tick scene (receiver scene c)) j (tick_some scene (well_formed scene ok) (receiver scene c))

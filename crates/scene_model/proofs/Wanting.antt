-- A step wants the blocks that it reads, and of a held value no other.
use Rattle.std.proofs.Common.{ℕ, suc, ◌+◌, ◌-◌, ◌*◌, ◌/◌, ◌%◌, ◌<◌, ◌≤◌, ◌≡◌, ◌↔◌, ◌⊎◌, inl, inr, arith, refl, Bool, true, false, Some, pos, ◌+ℤ◌}
use Rattle.std.proofs.lemmas.Bool.{cases_lt}
use Rattle.std.proofs.lemmas.Int.{ints}
use Rattle.std.proofs.Math.Nat.{le-div_iff_mul-le, div-add-mod'}
use Rattle.scene_model.specs.Clocks.{tick, clock, latency, due, allowance, steps, wanted, wants, clock_at, first_at, last_sample, run_time}
use Rattle.scene_model.specs.Due.{is_step_from}
use Rattle.scene_model.specs.Faults.{IsFaultless}
use Rattle.scene_model.specs.Scenes.{sender, receiver, input_of}
use Rattle.scene_model.specs.declared.scene.Scene.{Scene}
use Rattle.scene_model.specs.declared.port.PortKind.TheVariants.{Values}
use Rattle.scene_model.proofs.WellFormedScenes.{well_formed}
use Rattle.scene_model.proofs.Wanted.{test_from_lt, tick_some, wanted_below}
use Rattle.scene_model.proofs.ByClock.{scene_due_by_clock}
use Rattle.scene_model.proofs.Feeds.{IsLate, between_test, due_wants, held_test, is_late, values_allowance}

pub due_is_wanted : (scene : Scene) (c j k time : ℕ) → IsFaultless scene → ((input_of scene c).kind ≡ Values → ⊥) → clock scene (sender scene c) k ≤ time → due scene c time ≡ Some j → wants scene c j k ≡ true
due_is_wanted scene c j k time faultless ne from now = due_wants scene (well_formed scene faultless) c j k time (is_late scene c ne) from now

-- what stands in a block that a step does not want is due in a later one. So only blocks that step 0 wants have something that
-- is due before the start
pub unwanted_is_later : (scene : Scene) (c j k time : ℕ) → IsFaultless scene → ((input_of scene c).kind ≡ Values → ⊥) → k < steps scene (sender scene c) → wanted scene c j ≤ k
    → clock scene (sender scene c) k ≤ time → is_step_from (suc j) (due scene c time) ≡ true
unwanted_is_later scene c j k time faultless ne small past from = (scene_due_by_clock scene c (suc j) time faultless).1 (go (cases_lt (time + latency scene c) (clock scene (receiver scene c) (suc j))))
  where
    late : IsLate scene c
    late = is_late scene c ne

    go : (time + latency scene c < clock scene (receiver scene c) (suc j)) ⊎ (clock scene (receiver scene c) (suc j) ≤ time + latency scene c) → clock scene (receiver scene c) (suc j) ≤ time + latency scene c
    go (inl before) =
        let w : wants scene c j k ≡ true = test_from_lt (pos (run_time scene (sender scene c) k) +ℤ allowance scene c) (pos (run_time scene (receiver scene c) (suc j))) (omega (arith, ints, late, before, from)) in
        absurd (omega (arith, wanted_below scene c j k small w, past))
    go (inr after) = after

not_both : {b : Bool} → (b ≡ true → ⊥) → b ≡ false
not_both {b = true} h = absurd (h refl)
not_both {b = false} h = refl

module _ (scene : Scene) (faultless : IsFaultless scene) (c j : ℕ) (kind : (input_of scene c).kind ≡ Values) where
  -- how far what step j reads lies behind the first sample
  abbrev behind : ℕ
  behind = clock_at scene c j - first_at scene c

  abbrev ticks : ℕ
  ticks = tick scene (sender scene c)

  some : 1 ≤ ticks
  some = tick_some scene (well_formed scene faultless) (sender scene c)

  -- so many ticks are no more than that, just where the last sample is not before the one after them
  no_later : (k : ℕ) → (k ≤ last_sample scene c j) ↔ (k * ticks ≤ behind)
  no_later k = let by = le-div_iff_mul-le {k = ticks} {x = k} {y = behind} some in (by.0, by.1)

  -- a held value wants just the samples that are not later
  pub held_exactly : (k : ℕ) → (input_of scene c).interpolate ≡ false → first_at scene c ≤ clock_at scene c j → (wants scene c j k ≡ true) ↔ (k ≤ last_sample scene c j)
  held_exactly k held le =
      let test = held_test scene c j k (values_allowance scene c false kind held) in
      (λ w. (no_later k).1 (omega (arith, test.0 w)), λ small. test.1 (omega (arith, (no_later k).0 small, le)))

  -- before its first sample it wants none
  pub held_none : (k : ℕ) → (input_of scene c).interpolate ≡ false → clock_at scene c j < first_at scene c → wants scene c j k ≡ false
  held_none k held before = not_both (λ w. absurd (omega (arith, (held_test scene c j k (values_allowance scene c false kind held)).0 w, before)))

  -- an interpolated one wants them too
  pub between_first : (k : ℕ) → (input_of scene c).interpolate ≡ true → first_at scene c ≤ clock_at scene c j → k ≤ last_sample scene c j → wants scene c j k ≡ true
  between_first k between le small = (between_test scene c j k (values_allowance scene c true kind between)).1 (omega (arith, (no_later k).0 small, le, some))

  -- and the one after them where that has a weight
  pub between_next : (input_of scene c).interpolate ≡ true → first_at scene c ≤ clock_at scene c j → (wants scene c j (last_sample scene c j + 1) ≡ true) ↔ (0 < behind % ticks)
  between_next between le =
      let test = between_test scene c j (last_sample scene c j + 1) (values_allowance scene c true kind between) in
      let whole : behind / ticks * ticks + behind % ticks ≡ behind = div-add-mod' behind ticks in
      (λ w. omega (arith, test.0 w, whole, le), λ rest. test.1 (omega (arith, rest, whole, le)))

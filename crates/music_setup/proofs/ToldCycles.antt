-- The cycle of a scene that is told: its waits are between applications, and its numbers and its length within bounds.
use Rattle.std.proofs.Common.{ℕ, zero, suc, ◌+◌, ◌<◌, ◌≤◌, List, length, map, Option, None, Some, All, arith}
use Rattle.std.specs.Prelude.{IfSome}
use Rattle.std.specs.Int.{IsInRange}
use Rattle.std.specs.Option.{option_or}
use Rattle.std.specs.List.{range_with_len}
use Rattle.std.proofs.lemmas.List.Elements.{All-nil, All-cons, All-weaker}
use Rattle.std.proofs.lemmas.List.FromFn.{length-map-range_with_len}
use Rattle.scene_model.specs.Cover.{IsBounded, IsReportable, IsWithin, most_waits}
use Rattle.scene_model.specs.Faults.{IsFaultless}
use Rattle.scene_model.specs.Limits.{most_buffered}
use Rattle.scene_model.specs.Scenes.{input_of, link_at, output_of}
use Rattle.scene_model.specs.Waits.{IsLawfulLimit, at_most, greatest_limit, stated, stated_by, stated_limits, waits}
use Rattle.scene_model.specs.declared.scene.Scene.{Scene}
use Rattle.scene_model.specs.declared.wait.Wait.{Wait}
use Rattle.scene_model.proofs.Bounds.{has_options_at}
use Rattle.scene_model.proofs.Cycles.{All-among, IsReportable-short}
use Rattle.scene_model.proofs.WaitBounds.{waits_within}
use Rattle.cycle_check.specs.CycleTexts.{IsBetween}

-- ---- stated limits are lawful

lawful_by : (scene : Scene) (c : ℕ) (a b : Option ℕ) → IfSome a (IsInRange 1 most_buffered) → IsLawfulLimit (at_most greatest_limit (stated_by scene c a b))
lawful_by scene c None None some = tt
lawful_by scene c (Some a) None some = (omega (arith, some), omega arith)
lawful_by scene c None (Some b) some = (omega arith, omega arith)
lawful_by scene c (Some a) (Some b) some = (omega arith, omega arith)

lawful_or : (own other : Option ℕ) → IfSome own (IsInRange 1 most_buffered) → IsLawfulLimit (at_most greatest_limit other) → IsLawfulLimit (at_most greatest_limit (option_or own other))
lawful_or None other some lawful = lawful
lawful_or (Some own) other some lawful = (omega (arith, some), omega arith)

lawful_at : (scene : Scene) → IsFaultless scene → (c : ℕ) → c < length scene.links → IsLawfulLimit (stated scene c)
unfolding stated
lawful_at scene faultless c link =
    let options = has_options_at scene c faultless link in
    lawful_or (link_at scene c).buffered _ options.buffered (lawful_by scene c (output_of scene c).buffered (input_of scene c).buffered options.output_buffered)

All-map-range : {X : Type 0} (P : X → Type 0) (f : ℕ → X) (a n : ℕ) → ((k : ℕ) → k < a + n → P (f k)) → All P (map f (range_with_len a n))
All-map-range P f a zero each = All-nil P
All-map-range P f a (suc n) each = All-cons P (f a) (map f (range_with_len (a + 1) n)) (each a (omega arith)) (All-map-range P f (a + 1) n (λ k lt. each k (omega arith)))

stated_lawful : (scene : Scene) → IsFaultless scene → All IsLawfulLimit (stated_limits scene)
stated_lawful scene faultless = All-map-range IsLawfulLimit (stated scene) 0 (length scene.links) (λ c lt. lawful_at scene faultless c (omega arith))

-- ---- the cycle

stated_within : (scene : Scene) → IsFaultless scene → All (IsWithin (length scene.apps)) (waits scene (stated_limits scene))
stated_within scene faultless =
    waits_within scene (stated_limits scene) faultless (length-map-range_with_len (stated scene) 0 (length scene.links)) (stated_lawful scene faultless)

told_within : (scene : Scene) (cycle : List Wait) → IsFaultless scene → IsReportable (waits scene (stated_limits scene)) cycle → All (IsWithin (length scene.apps)) cycle
told_within scene cycle faultless told =
    All-among (IsWithin (length scene.apps)) (waits scene (stated_limits scene)) cycle (stated_within scene faultless) told.uncovered.cycle_of.among

pub told_between : (scene : Scene) (cycle : List Wait) → IsFaultless scene → IsReportable (waits scene (stated_limits scene)) cycle → All (IsBetween (length scene.apps)) cycle
told_between scene cycle faultless told =
    All-weaker (IsWithin (length scene.apps)) (IsBetween (length scene.apps)) (λ w is. record { waiter = is.waiter; awaited = is.awaited }) cycle (told_within scene cycle faultless told)

pub told_bounded : (scene : Scene) (cycle : List Wait) → IsFaultless scene → IsReportable (waits scene (stated_limits scene)) cycle → All IsBounded cycle
told_bounded scene cycle faultless told =
    All-weaker (IsWithin (length scene.apps)) IsBounded
    (λ w is. record { allowance_low = is.allowance_low; allowance_high = is.allowance_high; burden_low = is.burden_low; burden_high = is.burden_high })
    cycle (told_within scene cycle faultless told)

pub told_short : (scene : Scene) (cycle : List Wait) → IsFaultless scene → IsReportable (waits scene (stated_limits scene)) cycle → length cycle ≤ most_waits
told_short scene cycle faultless told =
    let short : length cycle ≤ length scene.apps = IsReportable-short (length scene.apps) (waits scene (stated_limits scene)) cycle (stated_within scene faultless) told in
    omega (arith, short, faultless.apps.few)

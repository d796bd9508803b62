-- The least clock of a step that is left, and how many steps lie before a clock.
use Rattle.std.proofs.Common.{ℕ, ◌+◌, ◌-◌, ◌*◌, ◌^◌, ◌<◌, ◌≤◌, ◌≡◌, ◌⊎◌, inl, inr, refl, sym, ◌∙◌, ap, subst, arith, List, length}
use Rattle.std.specs.Prelude.{◌↔◌, map, min, slice_index, slice_index_or}
use Rattle.std.specs.List.{filter, flat_map}
use Rattle.std.proofs.lemmas.Bool.{cases_lt}
use Rattle.std.proofs.lemmas.List.{get_or_read}
use Rattle.circular_buffer.specs.Buffer.{Buffer}
use Rattle.music_base.specs.Clocks.{steps_until}
use Rattle.music_base.specs.Numbers.{in_order}
use Rattle.music_base.specs.declared.item.Block.{Block}
use Rattle.music_base.proofs.Divisions.{lt-div_ceil}
use Rattle.scene_model.specs.Clocks.{clock, span, start, steps, tick}
use Rattle.scene_model.specs.Faults.{IsFaultless}
use Rattle.scene_model.specs.Logs.{row_cmp}
use Rattle.scene_model.specs.Orders.{Counts, run_by}
use Rattle.scene_model.specs.Scenes.{app_at}
use Rattle.scene_model.specs.declared.row.Row.{Row}
use Rattle.scene_model.specs.declared.scene.AppDecl.{AppDecl}
use Rattle.scene_model.specs.declared.scene.Scene.{Scene}
use Rattle.scene_model.proofs.Faultless.{app_is, tick_is}
use Rattle.run_logs.specs.Merging.{is_before, is_kept}
use Rattle.app_turn.specs.Machines.{Machine}
use Rattle.step_core.specs.Cores.{IsCore, IsPast, Released, machine_at, no_machine}
use Rattle.step_core.specs.Releasing.{HasStep, IsLeast, IsNextClock, IsStepAt, clock_of, steps_before}
use Rattle.step_core.proofs.Releases.{before_counts, released_core, released_is}

-- ---- the machines one by one

-- the least clock of a step that is left to one of the first machines, or `never`
pub record IsNextSoFar (machines : List Machine) (count never least : ℕ) : Type 0 where
  pub lowest : (a : ℕ) → a < count → HasStep (machine_at machines a) → least ≤ clock_of (machine_at machines a)
  pub reached : (least ≡ never) ⊎ ((a : ℕ) × IsStepAt machines a least)

pub none_so_far : (machines : List Machine) (never : ℕ) → IsNextSoFar machines 0 never never
none_so_far machines never = record { lowest = λ a low. absurd (omega (arith, low)); reached = inl refl }

pub all_so_far : (machines : List Machine) (never least : ℕ) → IsNextSoFar machines (length machines) never least → IsNextClock machines never least
all_so_far machines never least so_far = record { lowest = so_far.lowest; reached = so_far.reached }

module _ (machines : List Machine) (count never least : ℕ) (so_far : IsNextSoFar machines count never least) (m : Machine) (within : count < length machines) (is : m ≡ slice_index_or machines count m) where
  m-at : m ≡ machine_at machines count
  m-at = get_or_read machines count m within is no_machine

  lowest_with : (after : ℕ) → after ≤ least → (HasStep m → after ≤ clock_of m) → (a : ℕ) → a < count + 1 → HasStep (machine_at machines a) → after ≤ clock_of (machine_at machines a)
  lowest_with after less here a low left = elim (cases_lt a count) [
    | inl lt ↦ let le = so_far.lowest a lt left in omega (arith, le, less)
    | inr ge ↦
        let e : a ≡ count = omega arith in
        let same : machine_at machines a ≡ m = ap (machine_at machines) e ∙ sym m-at in
        let F : Machine → Type 0 = λ x. after ≤ clock_of x in
        subst F (sym same) (here (subst HasStep same left))
  ]

  -- it has no step left
  pub next_stays : (HasStep m → ⊥) → IsNextSoFar machines (count + 1) never least
  next_stays none = record { lowest = lowest_with least (omega arith) (λ left. absurd (none left)); reached = so_far.reached }

  -- it has one
  pub next_moves : HasStep m → (after : ℕ) → after ≡ min least (clock_of m) → IsNextSoFar machines (count + 1) never after
  next_moves left after at = record {
    lowest = lowest_with after (omega (arith, at)) (λ there. omega (arith, at));
    reached = elim (cases_lt least (clock_of m)) [
      | inl lt ↦ let same : least ≡ after = omega (arith, at, lt) in let F : ℕ → Type 0 = λ n. (n ≡ never) ⊎ ((a : ℕ) × IsStepAt machines a n) in subst F same so_far.reached
      | inr ge ↦
          let same : clock_of m ≡ after = omega (arith, at, ge) in
          inr (count, record { within = within; left = subst HasStep m-at left; has_clock = ap clock_of (sym m-at) ∙ same })
    ];
  }

-- ---- the clocks of steps

module _ (scene : Scene) (faultless : IsFaultless scene) (a : ℕ) where
  pub step-iff : (k : ℕ) → (k < steps scene a) ↔ (k * tick scene a < (app_at scene a).stop - start scene a)
  unfolding steps steps_until tick start
  step-iff k = lt-div_ceil k (span (app_at scene a)) (tick scene a) (tick_is scene faultless a).0

  pub before_stop : a < length scene.apps → (k : ℕ) → k < steps scene a → clock scene a k < 2 ^ 64 - 1
  unfolding start
  before_stop app k small =
      let within = (step-iff k).0 small in
      let stop = (app_is scene faultless a app).stop in
      omega (arith, within, stop)

  pub steps_counted : (least n : ℕ) → ((k : ℕ) → (k < n) ↔ (k * tick scene a < min (app_at scene a).stop least - start scene a)) → n ≡ steps_before scene least a
  steps_counted least n is =
      before_counts scene least a n
      (λ k. (
        λ low. let within = (is k).0 low in ((step-iff k).1 (omega (arith, within)), omega (arith, within)),
        λ both. let within = (step-iff k).0 both.0 in let early = both.1 in (is k).1 (omega (arith, within, early)),
      ))

  -- as code has it: this is the application
  pub steps_counted_by : (decl : AppDecl) (low least end time n : ℕ) → decl ≡ app_at scene a → low ≡ least → end ≡ min decl.stop low → time ≡ end - decl.start
      → ((k : ℕ) → (k < n) ↔ (k * decl.tick < time)) → n ≡ steps_before scene least a
  unfolding start tick
  steps_counted_by decl low least end time n is low_is end_is time_is made =
      let stops : decl.stop ≡ (app_at scene a).stop = ap (λ (d : AppDecl). d.stop) is in
      let starts : decl.start ≡ (app_at scene a).start = ap (λ (d : AppDecl). d.start) is in
      let ticks : decl.tick ≡ (app_at scene a).tick = ap (λ (d : AppDecl). d.tick) is in
      let all : time ≡ min (app_at scene a).stop least - (app_at scene a).start = omega (arith, low_is, end_is, time_is, stops, starts) in
      steps_counted least n
      (λ k. subst (λ t. (k < n) ↔ (k * t < min (app_at scene a).stop least - (app_at scene a).start)) ticks (subst (λ x. (k < n) ↔ (k * decl.tick < x)) all (made k)))

-- ---- the next clock of a core

module _ (scene : Scene) (limits : List ℕ) (s : Counts) (released : List ℕ) (machines : List Machine) (rings : List (Buffer Block)) (held : List (List Row)) (core : IsCore scene limits s released machines rings held) where
  pub all_below : (a k : ℕ) → a < length scene.apps → k < run_by s a → clock scene a k < 2 ^ 64 - 1
  all_below a k app ran = let fits = core.sound.at_most a app in before_stop scene core.faultless a app k (omega (arith, ran, fits))

  module _ (b : ℕ) (app : b < length scene.apps) where
    clock_is : clock_of (machine_at machines b) ≡ clock scene b (run_by s b)
    clock_is =
        let of = core.own.each b app in
        ap (λ (x : Scene). clock x (machine_at machines b).app (machine_at machines b).ran) of.is_scene ∙ ap (λ x. clock scene x (machine_at machines b).ran) of.is_app ∙ ap (clock scene b) (core.own.runs b app)

    steps_are : steps (machine_at machines b).scene (machine_at machines b).app ≡ steps scene b
    steps_are = let of = core.own.each b app in ap (λ (x : Scene). steps x (machine_at machines b).app) of.is_scene ∙ ap (steps scene) of.is_app

    has_step : run_by s b < steps scene b → HasStep (machine_at machines b)
    has_step left = omega (arith, left, steps_are, core.own.runs b app)

    step_left : HasStep (machine_at machines b) → run_by s b < steps scene b
    step_left left = omega (arith, left, steps_are, core.own.runs b app)

  pub least_is : (least : ℕ) → IsNextClock machines (2 ^ 64 - 1) least → IsLeast scene s least
  least_is least next = record {
    none_left = λ b app left. let le = next.lowest b (omega (arith, app, core.own.counted)) (has_step b app left) in omega (arith, le, clock_is b app);
    above_past = λ a k app ran past. above a k app ran past next.reached;
  }
    where
      above : (a k : ℕ) → a < length scene.apps → k < run_by s a → IsPast scene s a k → (least ≡ 2 ^ 64 - 1) ⊎ ((b : ℕ) × IsStepAt machines b least) → clock scene a k < least
      above a k app ran past (inl never) = let low = all_below a k app ran in omega (arith, low, never)
      above a k app ran past (inr at) =
          let b = at.0 in
          let small : b < length scene.apps = omega (arith, at.1.within, core.own.counted) in
          let low = past b small (step_left b small at.1.left) in
          omega (arith, low, clock_is b small, at.1.has_clock)

  -- what code has after a release: the rows that stay, and the counts as they were written down
  module _ (least : ℕ) (next : IsNextClock machines (2 ^ 64 - 1) least) (new : List ℕ) (counted : length new ≡ length released) (each : (a : ℕ) → a < length released → slice_index new a ≡ steps_before scene least a) where
    pub kept_core : (stay : List (List Row)) → stay ≡ map (filter (is_kept least)) held → IsCore scene limits s new machines rings stay
    kept_core stay is = subst (IsCore scene limits s new machines rings) (sym is) (released_core scene limits s released machines rings held core least (least_is least next) new counted each)

    pub was_released : (handed : List Row) → handed ≡ in_order row_cmp (flat_map (filter (is_before least)) held)
        → Released (record { scene = scene; limits = limits; counts = s; released = released }) handed (record { scene = scene; limits = limits; counts = s; released = new })
    was_released handed is =
        let F : List Row → Type 0 = λ l. Released (record { scene = scene; limits = limits; counts = s; released = released }) l (record { scene = scene; limits = limits; counts = s; released = new }) in
        subst F (sym is) (released_is scene limits s released machines rings held core least (least_is least next) new counted each)

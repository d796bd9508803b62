-- Releasing the rows of all steps that are past keeps a core.
use Rattle.std.proofs.Common.{ℕ, ◌*◌, ◌<◌, ◌≤◌, ◌≡◌, inl, inr, refl, sym, ◌∙◌, ap, arith, Bool, nat_lt, List, [], ◌++◌, length, map}
use Rattle.std.specs.Prelude.{◌↔◌, slice_index}
use Rattle.std.specs.List.{filter, flat_map}
use Rattle.std.proofs.lemmas.Bool.{cases_lt, lt-ltb, ltb-true}
use Rattle.std.proofs.lemmas.List.{ext_get_or, length-map}
use Rattle.std.proofs.lemmas.List.Folds.{flat_map-map}
use Rattle.std.proofs.lemmas.List.FromFn.{get_or-map-range_with_len, length-map-range_with_len}
use Rattle.std.proofs.Math.ListN.{get_or-map}
use Rattle.std.proofs.Math.Nat.{mul-le-mul_right}
use Rattle.circular_buffer.specs.Buffer.{Buffer}
use Rattle.music_base.specs.Numbers.{below, in_order}
use Rattle.music_base.specs.declared.item.Block.{Block}
use Rattle.music_base.proofs.Lists.{flat_map-agree_within, flat_map-none}
use Rattle.scene_model.specs.Clocks.{clock, steps, tick}
use Rattle.scene_model.specs.Lives.{history}
use Rattle.scene_model.specs.Logs.{row_cmp, rows, step_rows}
use Rattle.scene_model.specs.Orders.{AllFinished, Counts, run_by}
use Rattle.scene_model.specs.declared.act.Act.{Act}
use Rattle.scene_model.specs.declared.row.Row.{Row}
use Rattle.scene_model.specs.declared.scene.Scene.{Scene}
use Rattle.scene_model.proofs.Sound.{zero_at}
use Rattle.scene_model.proofs.Counting.{IsDownward, below_count, count_below-at_most, passes_below}
use Rattle.run_logs.specs.Merging.{is_before, is_kept, rows_of}
use Rattle.app_turn.specs.Machines.{Machine}
use Rattle.step_core.specs.Cores.{AreHeld, BeginsLog, CoreView, IsCore, IsPast, Released, did, opened, past_rows, rows_out, rows_so_far}
use Rattle.step_core.specs.Releasing.{IsLeast, steps_before}
use Rattle.step_core.proofs.Growing.{rows_grow}
use Rattle.step_core.proofs.PastRows.{past-before, past-kept, past_rows-first}

-- ---- steps before a clock

clocks_rise : (scene : Scene) (a i k : ℕ) → i ≤ k → clock scene a i ≤ clock scene a k
clocks_rise scene a i k le = let more : i * tick scene a ≤ k * tick scene a = mul-le-mul_right (tick scene a) le in omega arith

module _ (scene : Scene) (least a : ℕ) where
  is_early : ℕ → Bool
  is_early k = nat_lt (clock scene a k) least

  down : IsDownward (λ k. nat_lt (clock scene a k) least)
  down i k le pass =
      let low : clock scene a i ≤ clock scene a k = clocks_rise scene a i k le in
      let lt : clock scene a k < least = ltb-true (clock scene a k) least pass in
      lt-ltb (clock scene a i) least (omega arith)

  pub before_at_most : steps_before scene least a ≤ steps scene a
  unfolding steps_before
  before_at_most = count_below-at_most (steps scene a) (λ k. nat_lt (clock scene a k) least)

  pub before_is : (k : ℕ) → k < steps_before scene least a → clock scene a k < least
  unfolding steps_before
  before_is k lt = ltb-true (clock scene a k) least (passes_below (steps scene a) (λ k. nat_lt (clock scene a k) least) down k lt)

  pub before_has : (k : ℕ) → k < steps scene a → clock scene a k < least → k < steps_before scene least a
  unfolding steps_before
  before_has k small lt = below_count (steps scene a) (λ k. nat_lt (clock scene a k) least) down k small (lt-ltb (clock scene a k) least lt)

  pub from_before : (k : ℕ) → steps_before scene least a ≤ k → k < steps scene a → least ≤ clock scene a k
  from_before k ge small = elim (cases_lt (clock scene a k) least) [ inl lt ↦ let t = before_has k small lt in absurd (omega (arith, t, ge)) | inr le ↦ le ]

  -- a number below which just these steps are is how many there are
  pub before_counts : (n : ℕ) → ((k : ℕ) → (k < n) ↔ ((k < steps scene a) × (clock scene a k < least))) → n ≡ steps_before scene least a
  before_counts n is = elim (cases_lt n (steps_before scene least a)) [
    | inl lt ↦ let t : n < n = (is n).1 (omega (arith, lt, before_at_most), before_is n lt) in absurd (omega (arith, t))
    | inr ge ↦ elim (cases_lt (steps_before scene least a) n) [
      | inl gt ↦
          let at = (is (steps_before scene least a)).0 gt in
          let t = before_has (steps_before scene least a) at.0 at.1 in absurd (omega (arith, t))
      | inr le ↦ omega arith
    ]
  ]

-- ---- the rows that are handed out

-- the rows of all steps are those of the log
all_rows : (scene : Scene) → in_order row_cmp (flat_map (λ a. past_rows scene a 0 (steps scene a)) (below (length scene.apps))) ≡ rows scene (history scene)
unfolding rows
all_rows scene =
    ap (in_order row_cmp) (flat_map-agree_within (λ a. past_rows scene a 0 (steps scene a)) (λ a. flat_map (step_rows scene (history scene) a) (below (steps scene a))) 0 (length scene.apps)
    (λ a low high. past_rows-first scene a (steps scene a)))

module _ (scene : Scene) (limits : List ℕ) (s : Counts) (released : List ℕ) (machines : List Machine) (rings : List (Buffer Block)) (held : List (List Row)) (core : IsCore scene limits s released machines rings held) where
  -- what was handed out is past
  pub were_past : (a k : ℕ) → a < length scene.apps → k < slice_index released a → IsPast scene s a k
  were_past a k app low b small left = core.are_held.in_front a b k (run_by s b) app small low (core.are_held.were_run b small) left

  -- the rows held, application by application
  pub held_are : held ≡ map (λ a. past_rows scene a (slice_index released a) (run_by s a)) (below (length scene.apps))
  held_are =
      ext_get_or [] held (map (λ a. past_rows scene a (slice_index released a) (run_by s a)) (below (length scene.apps)))
      (core.are_held.held_counted ∙ sym (length-map-range_with_len (λ a. past_rows scene a (slice_index released a) (run_by s a)) 0 (length scene.apps)))
      (λ a small.
      let app : a < length scene.apps = rw (← core.are_held.held_counted) small in
      core.are_held.each a app ∙ sym (get_or-map-range_with_len (λ a. past_rows scene a (slice_index released a) (run_by s a)) 0 (length scene.apps) a a [] app (omega arith)))

  module _ (least : ℕ) (is : IsLeast scene s least) where
    -- no step that was not run is before it
    none_unrun : (a k : ℕ) → a < length scene.apps → run_by s a ≤ k → k < steps scene a → least ≤ clock scene a k
    none_unrun a k app ge small =
        let next = is.none_left a app (omega (arith, ge, small)) in
        let more = clocks_rise scene a (run_by s a) k ge in omega (arith, next, more)

    -- just the steps that are past are before it
    pub past_is : (a k : ℕ) → a < length scene.apps → k < run_by s a → (clock scene a k < least) ↔ IsPast scene s a k
    past_is a k app ran = ((λ lt b small left. let next = is.none_left b small left in omega (arith, lt, next)), λ past. is.above_past a k app ran past)

    before_most_run : (a : ℕ) → a < length scene.apps → steps_before scene least a ≤ run_by s a
    before_most_run a app = elim (cases_lt (run_by s a) (steps_before scene least a)) [
      | inl lt ↦
          let early = before_is scene least a (run_by s a) lt in
          let late = is.none_left a app (omega (arith, lt, before_at_most scene least a)) in absurd (omega (arith, early, late))
      | inr le ↦ le
    ]

    released_most_before : (a : ℕ) → a < length scene.apps → slice_index released a ≤ steps_before scene least a
    released_most_before a app = elim (cases_lt (steps_before scene least a) (slice_index released a)) [
      | inl lt ↦
          let ran = core.are_held.were_run a app in
          let fits = core.sound.at_most a app in
          let early = is.above_past a (steps_before scene least a) app (omega (arith, lt, ran)) (were_past a (steps_before scene least a) app lt) in
          let late = before_has scene least a (steps_before scene least a) (omega (arith, lt, ran, fits)) early in absurd (omega (arith, late))
      | inr le ↦ le
    ]

    -- ---- the counts of what was handed out

    module _ (new : List ℕ) (counted : length new ≡ length released) (each : (a : ℕ) → a < length released → slice_index new a ≡ steps_before scene least a) where
      new_is : (a : ℕ) → a < length scene.apps → slice_index new a ≡ steps_before scene least a
      new_is a app = each a (rw core.are_held.released_counted app)

      new_most_run : (a : ℕ) → a < length scene.apps → slice_index new a ≤ run_by s a
      new_most_run a app = omega (arith, new_is a app, before_most_run a app)

      old_most_new : (a : ℕ) → a < length scene.apps → slice_index released a ≤ slice_index new a
      old_most_new a app = omega (arith, new_is a app, released_most_before a app)

      new_most_steps : (a : ℕ) → a < length scene.apps → slice_index new a ≤ steps scene a
      new_most_steps a app = omega (arith, new_is a app, before_at_most scene least a)

      new_early : (a k : ℕ) → a < length scene.apps → k < slice_index new a → clock scene a k < least
      new_early a k app low = before_is scene least a k (omega (arith, low, new_is a app))

      new_late : (a k : ℕ) → a < length scene.apps → slice_index new a ≤ k → k < steps scene a → least ≤ clock scene a k
      new_late a k app ge small = from_before scene least a k (omega (arith, ge, new_is a app)) small

      new_in_front : (a b j k : ℕ) → a < length scene.apps → b < length scene.apps → j < slice_index new a → slice_index new b ≤ k → k < steps scene b → clock scene a j < clock scene b k
      new_in_front a b j k app other low ge small = omega (arith, new_early a j app low, new_late b k other ge small)

      -- the steps that are past, and no others of those run, have handed out their rows
      pub new_past : (a k : ℕ) → a < length scene.apps → k < run_by s a → (k < slice_index new a) ↔ IsPast scene s a k
      new_past a k app ran =
          let fits = core.sound.at_most a app in (
            λ low. (past_is a k app ran).0 (new_early a k app low),
            λ past. let t = before_has scene least a k (omega (arith, ran, fits)) ((past_is a k app ran).1 past) in omega (arith, t, new_is a app),
          )

      -- ---- the rows that stay, and those that go

      stay : (a : ℕ) → a < length scene.apps → rows_of (map (filter (is_kept least)) held) a ≡ past_rows scene a (slice_index new a) (run_by s a)
      stay a app =
          get_or-map (filter (is_kept least)) held a [] ∙ ap (filter (is_kept least)) (core.are_held.each a app)
          ∙ past-kept scene a least (slice_index released a) (slice_index new a) (run_by s a) (old_most_new a app) (new_most_run a app) (λ k low. new_early a k app low)
          (λ k ge ran. let fits = core.sound.at_most a app in new_late a k app ge (omega (arith, ran, fits)))

      new_held : AreHeld scene s new (map (filter (is_kept least)) held)
      new_held = record {
        released_counted = counted ∙ core.are_held.released_counted;
        held_counted = length-map held (filter (is_kept least)) ∙ core.are_held.held_counted;
        were_run = new_most_run;
        in_front = new_in_front;
        each = stay;
      }

      pub released_core : IsCore scene limits s new machines rings (map (filter (is_kept least)) held)
      released_core = record {
        faultless = core.faultless;
        planned = core.planned;
        sound = core.sound;
        own = core.own;
        follow = core.follow;
        rings_counted = core.rings_counted;
        each_ring = core.each_ring;
        are_held = new_held;
      }

      abbrev handed : List Row
      handed = in_order row_cmp (flat_map (λ a. past_rows scene a (slice_index released a) (slice_index new a)) (below (length scene.apps)))

      handed_is : in_order row_cmp (flat_map (filter (is_before least)) held) ≡ handed
      handed_is =
          ap (λ l. in_order row_cmp (flat_map (filter (is_before least)) l)) held_are
          ∙ ap (in_order row_cmp) (flat_map-map (filter (is_before least)) (λ a. past_rows scene a (slice_index released a) (run_by s a)) (below (length scene.apps))
          ∙ flat_map-agree_within (λ a. filter (is_before least) (past_rows scene a (slice_index released a) (run_by s a))) (λ a. past_rows scene a (slice_index released a) (slice_index new a)) 0 (length scene.apps)
          (λ a low high. let app : a < length scene.apps = omega (arith, high) in
          past-before scene a least (slice_index released a) (slice_index new a) (run_by s a) (old_most_new a app) (new_most_run a app) (λ k low. new_early a k app low)
          (λ k ge ran. let fits = core.sound.at_most a app in new_late a k app ge (omega (arith, ran, fits)))))

      abbrev from_core : CoreView
      from_core = record { scene = scene; limits = limits; counts = s; released = released }

      abbrev to_core : CoreView
      to_core = record { scene = scene; limits = limits; counts = s; released = new }

      stand_behind : rows_out to_core ≡ rows_out from_core ++ handed
      unfolding rows_out
      stand_behind =
          rows_grow scene (length scene.apps) (λ a. slice_index released a) (λ a. slice_index new a) old_most_new
          (λ a b j k app other low ge small. core.are_held.in_front a b j k app other low ge (omega (arith, small, new_most_steps b other)))

      begin : BeginsLog to_core
      unfolding rows_out
      begin = (
        in_order row_cmp (flat_map (λ a. past_rows scene a (slice_index new a) (steps scene a)) (below (length scene.apps))),
        sym (rows_grow scene (length scene.apps) (λ a. slice_index new a) (λ a. steps scene a) new_most_steps new_in_front) ∙ all_rows scene,
      )

      finished_all : AllFinished scene s → (a : ℕ) → a < length scene.apps → slice_index new a ≡ steps scene a
      finished_all done a app = elim (cases_lt (slice_index new a) (steps scene a)) [
        | inl lt ↦
            let ran : run_by s a ≡ steps scene a = (done a app).all_run in
            let past : IsPast scene s a (slice_index new a) = λ b small left. let all = (done b small).all_run in absurd (omega (arith, left, all)) in
            let t : slice_index new a < slice_index new a = (new_past a (slice_index new a) app (omega (arith, lt, ran))).1 past in absurd (omega (arith, t))
        | inr ge ↦ omega (arith, ge, new_most_steps a app)
      ]

      log_is_out : AllFinished scene s → rows_out to_core ≡ rows scene (history scene)
      unfolding rows_out
      log_is_out done =
          ap (in_order row_cmp) (flat_map-agree_within (λ a. past_rows scene a 0 (slice_index new a)) (λ a. past_rows scene a 0 (steps scene a)) 0 (length scene.apps)
          (λ a low high. ap (past_rows scene a 0) (finished_all done a (omega (arith, high)))))
          ∙ all_rows scene

      pub released_is : Released from_core (in_order row_cmp (flat_map (filter (is_before least)) held)) to_core
      released_is = record {
        same_scene = refl;
        same_limits = refl;
        same_counts = refl;
        counted = counted ∙ core.are_held.released_counted;
        were_run = new_most_run;
        behind = stand_behind ∙ ap (λ l. rows_out from_core ++ l) (sym handed_is);
        each = new_past;
        begins = begin;
        all = log_is_out;
      }

  -- all rows that are held
  module _ (above : ℕ) (is : (a k : ℕ) → a < length scene.apps → k < run_by s a → clock scene a k < above) where
    pub all_held : in_order row_cmp (flat_map (filter (is_before above)) held) ≡ rows_so_far (record { scene = scene; limits = limits; counts = s; released = released })
    unfolding rows_so_far
    all_held =
        ap (λ l. in_order row_cmp (flat_map (filter (is_before above)) l)) held_are
        ∙ ap (in_order row_cmp) (flat_map-map (filter (is_before above)) (λ a. past_rows scene a (slice_index released a) (run_by s a)) (below (length scene.apps))
        ∙ flat_map-agree_within (λ a. filter (is_before above) (past_rows scene a (slice_index released a) (run_by s a))) (λ a. past_rows scene a (slice_index released a) (run_by s a)) 0 (length scene.apps)
        (λ a low high. let app : a < length scene.apps = omega (arith, high) in
        past-before scene a above (slice_index released a) (run_by s a) (run_by s a) (core.are_held.were_run a app) (omega arith) (λ k ran. is a k app ran)
        (λ k ge ran. absurd (omega (arith, ge, ran)))))

-- ---- at the end

-- where nothing was handed out and all applications are finished, the rows that are held are those of the log
pub all_held_at_end : (scene : Scene) (limits : List ℕ) (s : Counts) → AllFinished scene s → rows_so_far (record { scene = scene; limits = limits; counts = s; released = (opened scene limits).released }) ≡ rows scene (history scene)
unfolding rows_so_far
all_held_at_end scene limits s done =
    ap (in_order row_cmp)
    (flat_map-agree_within (λ a. past_rows scene a (slice_index (opened scene limits).released a) (run_by s a)) (λ a. past_rows scene a 0 (steps scene a)) 0 (length scene.apps)
    (λ a low high. ap (λ n. past_rows scene a n (run_by s a)) (zero_at (length scene.apps) a) ∙ ap (past_rows scene a 0) (done a (omega (arith, high))).all_run))
    ∙ all_rows scene

-- ---- before any act, and with each

none_at_zero : (scene : Scene) (limits : List ℕ) (a : ℕ) → past_rows scene a 0 (slice_index (opened scene limits).released a) ≡ []
none_at_zero scene limits a = ap (past_rows scene a 0) (zero_at (length scene.apps) a)

pub none_opened : (scene : Scene) (limits : List ℕ) → rows_out (opened scene limits) ≡ []
unfolding rows_out
none_opened scene limits =
    ap (in_order row_cmp)
    (flat_map-agree_within (λ a. past_rows scene a 0 (slice_index (opened scene limits).released a)) (λ a. []) 0 (length scene.apps) (λ a low high. none_at_zero scene limits a)
    ∙ flat_map-none (below (length scene.apps)))

pub begins_opened : (scene : Scene) (limits : List ℕ) → BeginsLog (opened scene limits)
begins_opened scene limits = (rows scene (history scene), ap (λ l. l ++ rows scene (history scene)) (none_opened scene limits))

pub did_same : (core : CoreView) (act : Act) → rows_out (did core act) ≡ rows_out core
unfolding rows_out
did_same core act = refl

pub did_begins : (core : CoreView) (act : Act) → BeginsLog core → BeginsLog (did core act)
unfolding rows_out
did_begins core act begins = begins

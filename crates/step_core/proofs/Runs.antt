-- Running a step keeps a core.
use Rattle.std.proofs.Common.{ℕ, ◌+◌, ◌<◌, ◌≤◌, ◌≡◌, ◌⊎◌, inl, inr, sym, ◌∙◌, ap, subst, arith, List, [], ◌++◌, length, slice_set, get_or-set_same, get_or-set_other}
use Rattle.std.specs.Prelude.{slice_index, slice_index_or}
use Rattle.std.proofs.lemmas.Bool.{cases_eq}
use Rattle.std.proofs.lemmas.List.{set-get_or}
use Rattle.std.proofs.Math.ListN.{length-set}
use Rattle.circular_buffer.specs.Buffer.{Buffer}
use Rattle.music_base.specs.declared.item.Block.{Block}
use Rattle.scene_model.specs.Lives.{history}
use Rattle.scene_model.specs.Logs.{step_rows}
use Rattle.scene_model.specs.Orders.{CanRun, Counts, after, one_more, run_by}
use Rattle.scene_model.specs.declared.act.Act.TheVariants.{Run}
use Rattle.scene_model.specs.declared.row.Row.{Row}
use Rattle.scene_model.specs.declared.scene.Scene.{Scene}
use Rattle.scene_model.proofs.Sound.{after_act, one_more-other, one_more-same}
use Rattle.run_logs.specs.Merging.{AreRowsOf, rows_of}
use Rattle.app_turn.specs.Machines.{Machine}
use Rattle.app_turn.specs.Moves.{Ran}
use Rattle.step_core.specs.Cores.{AreHeld, IsCore, counts_of, machine_at, no_machine, past_rows}
use Rattle.step_core.proofs.Owning.{own-counts, ran_own}
use Rattle.step_core.proofs.Rows.{past_rows-last, past_rows-stand}
use Rattle.step_core.proofs.Takes.{follow_with, same_machine}

module _ (scene : Scene) (limits : List ℕ) (s : Counts) (released : List ℕ) (machines : List Machine) (rings : List (Buffer Block)) (held : List (List Row)) (core : IsCore scene limits s released machines rings held) where
  module _ (a : ℕ) (can : CanRun scene s a) (m : Machine) (rows : List Row) (ran : Ran (machine_at machines a) m rows) where
    rows_are : rows ≡ step_rows scene (history scene) a (run_by s a)
    rows_are =
        let of = core.own.each a can.app in
        ran.are_rows (history scene) (core.follow a can.app) ∙ ap (λ (x : Scene). step_rows x (history scene) (machine_at machines a).app (machine_at machines a).ran) of.is_scene ∙ ap (λ x. step_rows scene (history scene) x (machine_at machines a).ran) of.is_app ∙ ap (step_rows scene (history scene) a) (core.own.runs a can.app)

    pub with_step : rows_of held a ++ rows ≡ past_rows scene a (slice_index released a) (run_by s a + 1)
    with_step =
        ap (λ (l : List Row). l ++ rows) (core.are_held.each a can.app) ∙ ap (λ (l : List Row). past_rows scene a (slice_index released a) (run_by s a) ++ l) rows_are
        ∙ sym (past_rows-last scene a (slice_index released a) (run_by s a) (core.are_held.were_run a can.app))

    run_held : AreHeld scene (after s (Run a)) released (slice_set held a (rows_of held a ++ rows))
    run_held = record {
      released_counted = core.are_held.released_counted;
      held_counted = length-set held a _ ∙ core.are_held.held_counted;
      were_run = λ b app. were b app (cases_eq b a);
      in_front = core.are_held.in_front;
      each = λ b app. each b app (cases_eq b a);
    }
      where
        at : slice_index (one_more s.run a) a ≡ run_by s a + 1
        at = one_more-same s.run a (omega (arith, can.app, core.sound.runs))

        were : (b : ℕ) → b < length scene.apps → (b ≡ a) ⊎ (b ≡ a → ⊥) → slice_index released b ≤ slice_index (one_more s.run a) b
        were b app (inl e) = let F : ℕ → Type 0 = λ x. slice_index released x ≤ slice_index (one_more s.run a) x in subst F (sym e) (omega (arith, at, core.are_held.were_run a can.app))
        were b app (inr ne) = omega (arith, one_more-other s.run a b ne, core.are_held.were_run b app)

        here : rows_of (slice_set held a (rows_of held a ++ rows)) a ≡ past_rows scene a (slice_index released a) (slice_index (one_more s.run a) a)
        here =
            let small : a < length held = omega (arith, can.app, core.are_held.held_counted) in
            get_or-set_same held a (rows_of held a ++ rows) [] small ∙ with_step ∙ ap (past_rows scene a (slice_index released a)) (sym at)

        each : (b : ℕ) → b < length scene.apps → (b ≡ a) ⊎ (b ≡ a → ⊥) → rows_of (slice_set held a (rows_of held a ++ rows)) b ≡ past_rows scene b (slice_index released b) (slice_index (one_more s.run a) b)
        each b app (inl e) = let F : ℕ → Type 0 = λ x. rows_of (slice_set held a (rows_of held a ++ rows)) x ≡ past_rows scene x (slice_index released x) (slice_index (one_more s.run a) x) in subst F (sym e) here
        each b app (inr ne) = get_or-set_other held a b _ [] ne ∙ core.are_held.each b app ∙ ap (past_rows scene b (slice_index released b)) (sym (one_more-other s.run a b ne))

    run_core : IsCore scene limits (after s (Run a)) released (slice_set machines a m) rings (slice_set held a (rows_of held a ++ rows))
    run_core = record {
      faultless = core.faultless;
      planned = core.planned;
      sound = after_act scene limits s core.sound (Run a) can;
      own = ran_own scene machines s core.own a m rows (omega (arith, can.app, core.sound.runs)) can.app ran;
      follow = follow_with scene limits s released machines rings held core a m can.app (ran.follows (history scene) (core.follow a can.app));
      rings_counted = core.rings_counted;
      each_ring = core.each_ring;
      are_held = run_held;
    }

    run_counts : counts_of scene (slice_set machines a m) ≡ after s (Run a)
    run_counts = own-counts scene (slice_set machines a m) (after s (Run a)) run_core.own run_core.sound.runs run_core.sound.puts run_core.sound.takes

  -- the same as code has it: machine a is x
  module _ (a : ℕ) (x : Machine) (small : a < length scene.apps) (x-is : x ≡ slice_index_or machines a x) where
    x-at : x ≡ machine_at machines a
    x-at = same_machine scene limits s released machines rings held core a x small x-is

    -- the machine stayed as it was
    pub not_run : (m : Machine) → m ≡ x → IsCore scene limits (counts_of scene (slice_set machines a m)) released (slice_set machines a m) rings held × (counts_of scene (slice_set machines a m) ≡ s)
    not_run m is_machine =
        let back : slice_set machines a m ≡ machines = ap (slice_set machines a) (is_machine ∙ x-at) ∙ set-get_or machines a no_machine in
        let e : counts_of scene (slice_set machines a m) ≡ s = ap (counts_of scene) back ∙ own-counts scene machines s core.own core.sound.runs core.sound.puts core.sound.takes in
        let F : List Machine → Type 0 = λ q. IsCore scene limits (counts_of scene (slice_set machines a m)) released q rings held in
        let H : Counts → Type 0 = λ t. IsCore scene limits t released machines rings held in
        (subst F (sym back) (subst H (sym e) core), e)

    module _ (can : CanRun scene s a) (m : Machine) (rows : List Row) (ran : Ran x m rows) where
      old : Ran (machine_at machines a) m rows
      old = subst (λ (y : Machine). Ran y m rows) x-at ran

      pub rows_fit : AreRowsOf a (rows_of held a ++ rows)
      rows_fit = subst (AreRowsOf a) (sym (with_step a can m rows old)) (past_rows-stand scene core.faultless a (slice_index released a) (run_by s a + 1))

      pub run_next : (after_held : List (List Row)) → after_held ≡ slice_set held a (rows_of held a ++ rows)
          → IsCore scene limits (counts_of scene (slice_set machines a m)) released (slice_set machines a m) rings after_held × (counts_of scene (slice_set machines a m) ≡ after s (Run a))
      run_next after_held is =
          let F : List (List Row) → Type 0 = λ q. IsCore scene limits (counts_of scene (slice_set machines a m)) released (slice_set machines a m) rings q in
          let G : Counts → Type 0 = λ t. IsCore scene limits t released (slice_set machines a m) rings (slice_set held a (rows_of held a ++ rows)) in
          let n = run_counts a can m rows old in
          (subst F (sym is) (subst G (sym n) (run_core a can m rows old)), n)

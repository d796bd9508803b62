-- The history is the one table that again leaves as it is, where some lawful order finishes every application.
use Rattle.std.proofs.Common.{ℕ, zero, suc, ◌+◌, ◌<◌, ◌≤◌, ◌≡◌, refl, sym, ◌∙◌, ap, subst, arith, List, [], ◌∷◌, length, map}
use Rattle.std.specs.Prelude.{slice_index_or, ◌↔◌}
use Rattle.std.proofs.lemmas.List.{ext_get_or, length-map}
use Rattle.music_base.specs.Numbers.{total_below}
use Rattle.scene_model.specs.Clocks.{steps, wanted, wanted_before}
use Rattle.scene_model.specs.Faults.{IsFaultless}
use Rattle.scene_model.specs.Lives.{after_turns, again, all_steps, history, step_output}
use Rattle.scene_model.specs.Orders.{AllFinished, CanRun, Counts, IsLawful, IsLawfulFrom, IsSound, after, after_all, opening_counts, run_by, taken_from}
use Rattle.scene_model.specs.Scenes.{link_at, receiver, sender}
use Rattle.scene_model.specs.Tables.{IsProper, StepOutput, Table, step_of, steps_of}
use Rattle.scene_model.specs.WellFormed.{IsWellFormed}
use Rattle.scene_model.specs.declared.act.Act.{Act}
use Rattle.scene_model.specs.declared.act.Act.TheVariants.{Put, Run, Take}
use Rattle.scene_model.specs.declared.scene.AppDecl.{AppDecl}
use Rattle.scene_model.specs.declared.scene.Scene.{Scene}
use Rattle.scene_model.proofs.AgreeingLives.{step_output_same}
use Rattle.scene_model.proofs.Feeds.{SameFeed}
use Rattle.scene_model.proofs.Finish.{total_below-agree, total_below-more}
use Rattle.scene_model.proofs.ProperLives.{again-proper, length-steps_of, step_of-again}
use Rattle.scene_model.proofs.Sound.{after_act, one_more-other, one_more-same, opening_sound, zero_at}
use Rattle.scene_model.proofs.Wanted.{wanted_before-le}
use Rattle.scene_model.proofs.WellFormedScenes.{well_formed}

-- ---- what an order has run

-- two tables have the same steps so far
abbrev SameRun : Scene → Table → Table → Counts → Type 0
SameRun scene one other s = (a : ℕ) → a < length scene.apps → (k : ℕ) → k < run_by s a → step_of one a k ≡ step_of other a k

-- a table has them
abbrev HasRun : Scene → Table → Counts → Type 0
HasRun scene table s = (a : ℕ) → a < length scene.apps → run_by s a ≤ length (steps_of table a)

pub again_step : (scene : Scene) (table : Table) (a k : ℕ) → a < length scene.apps → k < steps scene a → step_of (again scene table) a k ≡ step_output scene table a k
again_step scene table a k app small = step_of-again scene table a k app (omega (arith, length-steps_of scene table a app))

-- two tables of one shape with the same steps
same_tables : (scene : Scene) (one other : Table) → length one ≡ length scene.apps → length other ≡ length scene.apps
    → ((a : ℕ) → a < length scene.apps → length (steps_of one a) ≡ steps scene a) → ((a : ℕ) → a < length scene.apps → length (steps_of other a) ≡ steps scene a)
    → ((a k : ℕ) → a < length scene.apps → k < steps scene a → step_of one a k ≡ step_of other a k) → one ≡ other
same_tables scene one other apps apps_other rows rows_other same = ext_get_or [] one other (apps ∙ sym apps_other) (λ a l. row a (omega (arith, apps)))
  where
    row : (a : ℕ) → a < length scene.apps → steps_of one a ≡ steps_of other a
    row a app = ext_get_or [] (steps_of one a) (steps_of other a) (rows a app ∙ sym (rows_other a app)) (λ k l. same a k app (omega (arith, rows a app)))

module _ (scene : Scene) (faultless : IsFaultless scene) (limits : List ℕ) where
  timed : IsWellFormed scene
  timed = well_formed scene faultless

  -- ---- one more step

  module _ (s : Counts) (sound : IsSound scene limits s) (a : ℕ) (can : CanRun scene s a) where
    sound_then : IsSound scene limits (after s (Run a))
    sound_then = after_act scene limits s sound (Run a) can

    -- what a step so far wants was run before this act
    ready : (b k c : ℕ) → k < run_by (after s (Run a)) b → c < length scene.links → receiver scene c ≡ b → wanted scene c k ≤ run_by s (sender scene c)
    ready b k c small link to =
        let least : wanted_before scene c (run_by (after s (Run a)) (receiver scene c)) ≤ taken_from s c = (sound_then.on c link).taken_at_least in
        let most : wanted_before scene c (suc k) ≤ wanted_before scene c (run_by (after s (Run a)) (receiver scene c)) = wanted_before-le scene c (suc k) (run_by (after s (Run a)) (receiver scene c)) (rw to small) in
        let on = sound.on c link in omega (arith, on.taken_were_put, on.put_at_most)

    -- so the lives over two tables that agree on what was run before it agree on what is run after it
    lives_same : (one other : Table) → IsProper scene one → IsProper scene other → HasRun scene one s → HasRun scene other s → SameRun scene one other s
        → (b k : ℕ) → k < run_by (after s (Run a)) b → step_output scene one b k ≡ step_output scene other b k
    lives_same one other proper also has has_other same b k small = step_output_same scene timed one other proper also b k feed
      where
        feed : (j : ℕ) → j ≤ k → SameFeed scene one other b j
        feed j le = record {
          agree = λ c link to i l. ap (λ (o : StepOutput). slice_index_or o (link_at scene c).from_port []) (same (sender scene c) (timed.senders c link) i (omega (arith, ready b j c (omega arith) link to)));
          has_left = λ c link to. omega (arith, ready b j c (omega arith) link to, has (sender scene c) (timed.senders c link));
          has_right = λ c link to. omega (arith, ready b j c (omega arith) link to, has_other (sender scene c) (timed.senders c link));
        }

  -- ---- one fixed table at most

  fixed_proper : (table : Table) → again scene table ≡ table → IsProper scene table
  fixed_proper table e = subst (IsProper scene) e (again-proper scene table faultless)

  fixed_rows : (table : Table) → again scene table ≡ table → (a : ℕ) → a < length scene.apps → length (steps_of table a) ≡ steps scene a
  fixed_rows table e a app = subst (λ (t : Table). length (steps_of t a) ≡ steps scene a) e (length-steps_of scene table a app)

  fixed_step : (table : Table) → again scene table ≡ table → (a k : ℕ) → a < length scene.apps → k < steps scene a → step_of table a k ≡ step_output scene table a k
  fixed_step table e a k app small = ap (λ (t : Table). step_of t a k) (sym e) ∙ again_step scene table a k app small

  module _ (one other : Table) (fixed : again scene one ≡ one) (also_fixed : again scene other ≡ other) where
    has_fixed : (table : Table) → again scene table ≡ table → (s : Counts) → IsSound scene limits s → HasRun scene table s
    has_fixed table e s sound a app = omega (arith, fixed_rows table e a app, sound.at_most a app)

    same_along : (acts : List Act) (s : Counts) → IsSound scene limits s → IsLawfulFrom scene limits s acts → SameRun scene one other s → SameRun scene one other (after_all s acts)
    same_along [] s sound lawful same = same
    same_along (Take c ∷ acts) s sound lawful same = same_along acts (after s (Take c)) (after_act scene limits s sound (Take c) lawful.0) lawful.1 same
    same_along (Put c ∷ acts) s sound lawful same = same_along acts (after s (Put c)) (after_act scene limits s sound (Put c) lawful.0) lawful.1 same
    same_along (Run a ∷ acts) s sound lawful same = same_along acts (after s (Run a)) (sound_then s sound a lawful.0) lawful.1 next
      where
        next : SameRun scene one other (after s (Run a))
        next b app k small =
            let l : k < steps scene b = omega (arith, (sound_then s sound a lawful.0).at_most b app) in
            fixed_step one fixed b k app l
            ∙ lives_same s sound a lawful.0 one other (fixed_proper one fixed) (fixed_proper other also_fixed) (has_fixed one fixed s sound) (has_fixed other also_fixed s sound) same b k small
            ∙ sym (fixed_step other also_fixed b k app l)

    one_fixed : (acts : List Act) → IsLawfulFrom scene limits (opening_counts scene) acts → AllFinished scene (after_all (opening_counts scene) acts) → one ≡ other
    one_fixed acts lawful finished =
        same_tables scene one other (fixed_proper one fixed).apps (fixed_proper other also_fixed).apps (fixed_rows one fixed) (fixed_rows other also_fixed)
        (λ a k app small. same_along acts (opening_counts scene) (opening_sound scene limits) lawful (λ b bound i none. absurd (omega (arith, zero_at (length scene.apps) b))) a app k (omega (arith, (finished a app).all_run)))

  -- ---- the history is fixed

  no_rows : (apps : List AppDecl) (a : ℕ) → slice_index_or (map (λ (x : AppDecl). let none : List StepOutput = [] in none) apps) a [] ≡ []
  no_rows [] a = refl
  no_rows (x ∷ apps) zero = refl
  no_rows (x ∷ apps) (suc a) = no_rows apps a

  turns_proper : (m : ℕ) → IsProper scene (after_turns scene m)
  turns_proper zero = record {
    apps = length-map scene.apps (λ _. []);
    steps = λ a app. rw (no_rows scene.apps a) (omega arith);
    ports = λ a k app small. absurd (omega (arith, ap length (no_rows scene.apps a)));
    blocks = λ a k p app small port. absurd (omega (arith, ap length (no_rows scene.apps a)));
  }
  turns_proper (suc m) = again-proper scene (after_turns scene m) faultless

  -- so many turns have all that was run, and one more leaves it
  record Settles (s : Counts) (m : ℕ) : Type 0 where
    pub has : HasRun scene (after_turns scene m) s
    pub same : SameRun scene (after_turns scene m) (after_turns scene (suc m)) s

  -- a turn for each step that was run settles them
  abbrev SettlesFrom : Counts → Type 0
  SettlesFrom s = (m : ℕ) → total_below (run_by s) (length scene.apps) ≤ m → Settles s m

  module _ (s : Counts) (sound : IsSound scene limits s) (a : ℕ) (can : CanRun scene s a) where
    one_step_more : total_below (run_by (after s (Run a))) (length scene.apps) ≡ total_below (run_by s) (length scene.apps) + 1
    one_step_more = total_below-more (run_by s) (run_by (after s (Run a))) (length scene.apps) a can.app
        (one_more-same s.run a (omega (arith, can.app, sound.runs))) (λ j ne. sym (one_more-other s.run a j ne))

    run_settles : SettlesFrom s → SettlesFrom (after s (Run a))
    run_settles settles zero enough = absurd (omega (arith, one_step_more))
    run_settles settles (suc m) enough = record {
      has = λ b app. omega (arith, (sound_then s sound a can).at_most b app, length-steps_of scene (after_turns scene m) b app);
      same = λ b app k small. next b app k small;
    }
      where
        before : Settles s m
        before = settles m (omega (arith, one_step_more))

        later : Settles s (suc m)
        later = settles (suc m) (omega (arith, one_step_more))

        next : SameRun scene (after_turns scene (suc m)) (after_turns scene (suc (suc m))) (after s (Run a))
        next b app k small =
            let l : k < steps scene b = omega (arith, (sound_then s sound a can).at_most b app) in
            again_step scene (after_turns scene m) b k app l
            ∙ lives_same s sound a can (after_turns scene m) (after_turns scene (suc m)) (turns_proper m) (turns_proper (suc m)) before.has later.has before.same b k small
            ∙ sym (again_step scene (after_turns scene (suc m)) b k app l)

  settles_along : (acts : List Act) (s : Counts) → IsSound scene limits s → IsLawfulFrom scene limits s acts → SettlesFrom s → SettlesFrom (after_all s acts)
  settles_along [] s sound lawful settles = settles
  settles_along (Take c ∷ acts) s sound lawful settles =
      settles_along acts (after s (Take c)) (after_act scene limits s sound (Take c) lawful.0) lawful.1 (λ m enough. let t = settles m enough in record { has = t.has; same = t.same })
  settles_along (Put c ∷ acts) s sound lawful settles =
      settles_along acts (after s (Put c)) (after_act scene limits s sound (Put c) lawful.0) lawful.1 (λ m enough. let t = settles m enough in record { has = t.has; same = t.same })
  settles_along (Run a ∷ acts) s sound lawful settles = settles_along acts (after s (Run a)) (sound_then s sound a lawful.0) lawful.1 (run_settles s sound a lawful.0 settles)

  opening_settles : SettlesFrom (opening_counts scene)
  opening_settles m enough = record {
    has = λ a app. omega (arith, zero_at (length scene.apps) a);
    same = λ a app k small. absurd (omega (arith, zero_at (length scene.apps) a));
  }

  history_fixed : (acts : List Act) → IsLawfulFrom scene limits (opening_counts scene) acts → AllFinished scene (after_all (opening_counts scene) acts) → again scene (history scene) ≡ history scene
  unfolding history
  history_fixed acts lawful finished =
      sym (same_tables scene (after_turns scene (all_steps scene)) (after_turns scene (suc (all_steps scene))) (turns_proper (all_steps scene)).apps (turns_proper (suc (all_steps scene))).apps
      (λ a app. omega (arith, settled.has a app, (finished a app).all_run, (turns_proper (all_steps scene)).steps a app)) (length-steps_of scene (after_turns scene (all_steps scene)))
      (λ a k app small. settled.same a app k (omega (arith, (finished a app).all_run))))
    where
      settled : Settles (after_all (opening_counts scene) acts) (all_steps scene)
      settled = settles_along acts (opening_counts scene) (opening_sound scene limits) lawful opening_settles (all_steps scene)
          (omega (arith, total_below-agree (run_by (after_all (opening_counts scene) acts)) (steps scene) (length scene.apps) (λ b l. (finished b l).all_run)))

  -- the fixed tables are the history alone
  pub one_history : (acts : List Act) → IsLawful scene limits acts → AllFinished scene (after_all (opening_counts scene) acts) → (table : Table) → (again scene table ≡ table) ↔ (table ≡ history scene)
  one_history acts lawful finished table =
      let fixed : again scene (history scene) ≡ history scene = history_fixed acts lawful.1 finished in
      (λ e. one_fixed table (history scene) e fixed acts lawful.1 finished, λ e. ap (again scene) e ∙ fixed ∙ sym e)

-- Where all wanted blocks passed, and they are what the lives over a table give that begins with them, these lives are the history.
use Rattle.std.proofs.Common.{ℕ, suc, ◌<◌, ◌≤◌, ◌≡◌, ◌∙◌, sym, arith, List, length}
use Rattle.music_base.specs.Numbers.{below}
use Rattle.music_base.proofs.Lists.{All-below, map-agree, map-agree_each}
use Rattle.scene_model.specs.Clocks.{steps, wanted, wanted_blocks}
use Rattle.scene_model.specs.Faults.{IsFaultless}
use Rattle.scene_model.specs.Lives.{again, history, life, step_output}
use Rattle.scene_model.specs.Orders.{AllFinished, IsLawful, after_all, opening_counts}
use Rattle.scene_model.specs.Passing.{AreOfLives, Begins, Passed}
use Rattle.scene_model.specs.Scenes.{receiver, sender}
use Rattle.scene_model.specs.Tables.{IsProper, Table, block_on, steps_of}
use Rattle.scene_model.specs.WellFormed.{IsWellFormed}
use Rattle.scene_model.specs.declared.act.Act.{Act}
use Rattle.scene_model.specs.declared.scene.Scene.{Scene}
use Rattle.scene_model.proofs.AgreeingLives.{step_output_same}
use Rattle.scene_model.proofs.Feeds.{SameFeed}
use Rattle.scene_model.proofs.FixedTables.{one_history}
use Rattle.scene_model.proofs.ProperLives.{again-proper, length-steps_of}
use Rattle.scene_model.proofs.Wanted.{wanted-at_most, wanted_before-at_most}
use Rattle.scene_model.proofs.WellFormedScenes.{well_formed}

-- the table has all wanted blocks, and they are those that the lives over it give
record AgreesWithLives (scene : Scene) (table : Table) : Type 0 where
  pub has : (c : ℕ) → c < length scene.links → wanted_blocks scene c ≤ length (steps_of table (sender scene c))
  pub agree : (c k : ℕ) → c < length scene.links → k < wanted_blocks scene c → block_on scene (again scene table) c k ≡ block_on scene table c k

module _ (scene : Scene) (faultless : IsFaultless scene) (table : Table) (proper : IsProper scene table) (agrees : AgreesWithLives scene table) where
  timed : IsWellFormed scene
  timed = well_formed scene faultless

  again_twice : again scene (again scene table) ≡ again scene table
  again_twice = map-agree (life scene (again scene table)) (life scene table) each (below (length scene.apps))
    where
      feed : (a j : ℕ) → j < steps scene a → SameFeed scene (again scene table) table a j
      feed a j small = record {
        agree = λ c link to k l. agrees.agree c k link (omega (arith, few c to));
        has_left = λ c link to. omega (arith, wanted_before-at_most scene c (suc j), length-steps_of scene table (sender scene c) (timed.senders c link));
        has_right = λ c link to. omega (arith, few c to, agrees.has c link);
      }
        where
          few : (c : ℕ) → receiver scene c ≡ a → wanted scene c j ≤ wanted_blocks scene c
          few c to = let l : j < steps scene (receiver scene c) = rw to small in wanted-at_most scene c j l

      each : (a : ℕ) → life scene (again scene table) a ≡ life scene table a
      each a = map-agree_each (step_output scene (again scene table) a) (step_output scene table a) (below (steps scene a))
          (All-below (λ k. step_output scene (again scene table) a k ≡ step_output scene table a k) (steps scene a)
          (λ k small. step_output_same scene timed (again scene table) table (again-proper scene table faultless) proper a k (λ j le. feed a j (omega arith))))

  lives_are_history : (limits : List ℕ) (acts : List Act) → IsLawful scene limits acts → AllFinished scene (after_all (opening_counts scene) acts) → again scene table ≡ history scene
  lives_are_history limits acts lawful finished = (one_history scene faultless limits acts lawful finished (again scene table)).0 again_twice

pub begun_is_history : (scene : Scene) (faultless : IsFaultless scene) → (limits : List ℕ) (acts : List Act) → IsLawful scene limits acts → AllFinished scene (after_all (opening_counts scene) acts)
    → (passed : Passed) (table : Table) → Begins scene passed table → AreOfLives scene passed table → again scene table ≡ history scene
begun_is_history scene faultless limits acts lawful finished passed table begins lives =
    lives_are_history scene faultless table begins.proper (record {
      has = λ c link. omega (arith, begins.there c link, lives.all c link);
      agree = λ c k link small. let l : k < length (passed c) = omega (arith, lives.all c link) in sym (begins.same c k link l ∙ lives.lived c k link l);
    }) limits acts lawful finished

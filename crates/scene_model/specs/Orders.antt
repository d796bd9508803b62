-- Acts, the counts that they move, lawful orders of acts, and when a scene is live.
use Rattle.std.specs.Prelude.{◌≡◌, ◌≤◌, ◌<◌, ◌⊎◌, ⊤, ℕ, ◌+◌, ◌-◌, min, List, [], ◌∷◌, length, slice_index, slice_set, replicate}
use Rattle.scene_model.specs.Scenes.{sender, receiver}
use Rattle.scene_model.specs.Clocks.{steps, wanted, wanted_before, wanted_blocks}
use Rattle.scene_model.specs.declared.act.Act.{Act}
use Rattle.scene_model.specs.declared.act.Act.TheVariants.{Take, Run, Put}
use Rattle.scene_model.specs.declared.scene.Scene.{Scene}

-- ---- counts

-- the steps run of each application, and the blocks put and taken on each connection
pub record Counts : Type 0 where
  pub run : List ℕ
  pub put : List ℕ
  pub taken : List ℕ

abbrev pub run_by : Counts → ℕ → ℕ
run_by s a = slice_index s.run a

abbrev pub put_on : Counts → ℕ → ℕ
put_on s c = slice_index s.put c

abbrev pub taken_from : Counts → ℕ → ℕ
taken_from s c = slice_index s.taken c

-- all begin at 0
abbrev pub opening_counts : Scene → Counts
opening_counts scene = record {
  run = replicate (length scene.apps) 0;
  put = replicate (length scene.links) 0;
  taken = replicate (length scene.links) 0;
}

-- one more at a place
abbrev pub one_more : List ℕ → ℕ → List ℕ
one_more xs i = slice_set xs i (slice_index xs i + 1)

-- each act adds one to its count
abbrev pub after : Counts → Act → Counts
after s (Take c) = record s { taken = one_more s.taken c }
after s (Run a) = record s { run = one_more s.run a }
after s (Put c) = record s { put = one_more s.put c }

abbrev pub after_all : Counts → List Act → Counts
after_all s [] = s
after_all s (act ∷ acts) = after_all (after s act) acts

-- ---- which acts are allowed

-- P of each connection to an application, and of each connection from one
abbrev pub EachTo : Scene → ℕ → (ℕ → Type 0) → Type 0
EachTo scene b P = (c : ℕ) → c < length scene.links → receiver scene c ≡ b → P c

abbrev pub EachFrom : Scene → ℕ → (ℕ → Type 0) → Type 0
EachFrom scene a P = (c : ℕ) → c < length scene.links → sender scene c ≡ a → P c

-- a block can be taken where more were put than taken, the receiver has a step left, and that step wants the block
pub record CanTake (scene : Scene) (s : Counts) (c : ℕ) : Type 0 where
  pub link : c < length scene.links
  pub there : taken_from s c < put_on s c
  pub step_left : run_by s (receiver scene c) < steps scene (receiver scene c)
  pub is_wanted : taken_from s c < wanted scene c (run_by s (receiver scene c))

-- an application can run a step where one is left, all blocks that it wants were taken, and all wanted blocks of the
-- steps before were put
pub record CanRun (scene : Scene) (s : Counts) (a : ℕ) : Type 0 where
  pub app : a < length scene.apps
  pub step_left : run_by s a < steps scene a
  pub all_taken : EachTo scene a (λ c. taken_from s c ≡ wanted scene c (run_by s a))
  pub all_put : EachFrom scene a (λ c. put_on s c ≡ min (run_by s a) (wanted_blocks scene c))

-- a block can be put where the sender has run its step, some step of the receiver wants it, and the connection keeps
-- fewer blocks than its limit
pub record CanPut (scene : Scene) (limits : List ℕ) (s : Counts) (c : ℕ) : Type 0 where
  pub link : c < length scene.links
  pub made : put_on s c < run_by s (sender scene c)
  pub is_wanted : put_on s c < wanted_blocks scene c
  pub room : put_on s c < taken_from s c + slice_index limits c

abbrev pub IsAllowed : Scene → List ℕ → Counts → Act → Type 0
IsAllowed scene limits s (Take c) = CanTake scene s c
IsAllowed scene limits s (Run a) = CanRun scene s a
IsAllowed scene limits s (Put c) = CanPut scene limits s c

-- whose act it is
abbrev pub actor : Scene → Act → ℕ
actor scene (Take c) = receiver scene c
actor scene (Run a) = a
actor scene (Put c) = sender scene c

-- ---- lawful orders

-- each act is allowed by the counts that those before it give
abbrev pub IsLawfulFrom : Scene → List ℕ → Counts → List Act → Type 0
IsLawfulFrom scene limits s [] = ⊤
IsLawfulFrom scene limits s (act ∷ acts) = IsAllowed scene limits s act × IsLawfulFrom scene limits (after s act) acts

-- there is one limit for each connection, and each act is allowed, from the opening counts on
abbrev pub IsLawful : Scene → List ℕ → List Act → Type 0
IsLawful scene limits acts = (length limits ≡ length scene.links) × IsLawfulFrom scene limits (opening_counts scene) acts

-- an application is finished where its steps were all run and their wanted blocks put
pub record IsFinished (scene : Scene) (s : Counts) (a : ℕ) : Type 0 where
  pub all_run : run_by s a ≡ steps scene a
  pub all_put : EachFrom scene a (λ c. put_on s c ≡ wanted_blocks scene c)

abbrev pub AllFinished : Scene → Counts → Type 0
AllFinished scene s = (a : ℕ) → a < length scene.apps → IsFinished scene s a

-- ---- sound counts

-- what holds on a connection of its limit, the steps run by its sender and by its receiver, and the blocks put and taken
pub record IsSoundOn (scene : Scene) (c limit sent received put taken : ℕ) : Type 0 where
  pub taken_were_put : taken ≤ put
  -- no more blocks are kept than the limit
  pub kept : put ≤ taken + limit
  -- only blocks of steps that were run are put, and only wanted ones
  pub put_at_most : put ≤ min sent (wanted_blocks scene c)
  -- all wanted blocks of the steps before the last one run were put
  pub put_at_least : min (sent - 1) (wanted_blocks scene c) ≤ put
  -- only blocks that the next step wants are taken, or where no step is left, that some step wants
  pub taken_for_next : received < steps scene (receiver scene c) → taken ≤ wanted scene c received
  pub taken_at_most : taken ≤ wanted_blocks scene c
  -- all blocks that the last step run wants were taken
  pub taken_at_least : wanted_before scene c received ≤ taken

pub record IsSound (scene : Scene) (limits : List ℕ) (s : Counts) : Type 0 where
  pub runs : length s.run ≡ length scene.apps
  pub puts : length s.put ≡ length scene.links
  pub takes : length s.taken ≡ length scene.links
  pub at_most : (a : ℕ) → a < length scene.apps → run_by s a ≤ steps scene a
  pub on : (c : ℕ) → c < length scene.links → IsSoundOn scene c (slice_index limits c) (run_by s (sender scene c)) (run_by s (receiver scene c)) (put_on s c) (taken_from s c)

-- ---- live scenes

-- some act is allowed
abbrev pub SomeAllowed : Scene → List ℕ → Counts → Type 0
SomeAllowed scene limits s = (act : Act) × IsAllowed scene limits s act

-- there is one limit for each connection, and after every lawful order some act is allowed or every application is finished
pub record IsLive (scene : Scene) (limits : List ℕ) : Type 0 where
  pub one_each : length limits ≡ length scene.links
  pub goes_on : (acts : List Act) → IsLawful scene limits acts →
      SomeAllowed scene limits (after_all (opening_counts scene) acts) ⊎ AllFinished scene (after_all (opening_counts scene) acts)

-- A core that is driven to its end, and what of its log was written.
use Rattle.std.specs.Prelude.{◌≡◌, ℕ, Bool, true, false, List, length}
use Rattle.scene_model.specs.Lives.{history}
use Rattle.scene_model.specs.Logs.{rows, text_of}
use Rattle.scene_model.specs.Orders.{AllFinished, IsLawfulFrom, after_all}
use Rattle.scene_model.specs.declared.act.Act.{Act}
use Rattle.scene_model.specs.declared.scene.Scene.{Scene}
use Rattle.run_logs.specs.declared.counting.LogSize.{LogSize}
use Rattle.step_core.specs.Cores.{BeginsLog, Can, CoreView, IsAfter, IsDone, did, rows_out}

-- a lawful order of acts led to this core, and the rows that it handed out begin the log's
pub record IsRunning (scene : Scene) (limits : List ℕ) (core : CoreView) : Type 0 where
  pub order : List Act
  pub is_after : IsAfter scene limits order core
  pub begins : BeginsLog core

-- a lawful order of acts led to this core, it has nothing left to do, and it handed out all rows of the log
pub record HasRun (scene : Scene) (limits : List ℕ) (core : CoreView) : Type 0 where
  pub order : List Act
  pub is_done : IsDone scene limits order core
  pub all_out : rows_out core ≡ rows scene (history scene)

-- the text of the rows that were handed out: the header, and a line for each
abbrev pub text_out : CoreView → List ℕ
text_out core = text_of core.scene (rows_out core)

-- these acts were done to a core one after another, each allowed in its turn, and nothing else that contracts see changed
pub record AreDone (before : CoreView) (acts : List Act) (now : CoreView) : Type 0 where
  pub lawful : IsLawfulFrom before.scene before.limits before.counts acts
  pub is : now ≡ record before { counts = after_all before.counts acts }

-- allowed acts were done, which ones is left open
abbrev pub WentOn : CoreView → CoreView → Type 0
WentOn before now = (acts : List Act) × AreDone before acts now

-- an allowed act was done, and others behind it
pub record DidSome (before now : CoreView) : Type 0 where
  pub act : Act
  pub can : Can before act
  pub more : WentOn (did before act) now

-- an act at least was done, or nothing, as it is told
abbrev pub Went : CoreView → Bool → CoreView → Type 0
Went before true now = DidSome before now
Went before false now = now ≡ before

-- the same, where nothing is done only when all applications are finished
abbrev pub TookTurn : CoreView → Bool → CoreView → Type 0
TookTurn before true now = DidSome before now
TookTurn before false now = (now ≡ before) × AllFinished before.scene before.counts

-- ---- sizes

-- so many rows were handed out, and so many bytes has their text with the header
pub record IsSizeOut (core : CoreView) (size : LogSize) : Type 0 where
  pub count : size.rows ≡ length (rows_out core)
  pub text : size.bytes ≡ length (text_out core)

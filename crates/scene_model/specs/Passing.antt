-- Blocks that passed the connections, and tables that begin with them.
use Rattle.std.specs.Prelude.{ℕ, ◌+◌, ◌≤◌, ◌<◌, ◌≡◌, List, [], length, slice_index_or}
use Rattle.music_base.specs.declared.item.Item.{Item}
use Rattle.scene_model.specs.Clocks.{clock, steps, wanted_blocks}
use Rattle.scene_model.specs.Lives.{again}
use Rattle.scene_model.specs.Scenes.{link_at, output_of, sender}
use Rattle.scene_model.specs.Tables.{IsProper, IsProperBlock, Table, block_on, steps_of}
use Rattle.scene_model.specs.declared.scene.Scene.{Scene}

-- for each connection the items of the blocks that passed, block by block
abbrev pub Passed : Type 0
Passed = ℕ → List (List Item)

-- block k that passed on connection c
abbrev pub passed_on : Passed → ℕ → ℕ → List Item
passed_on passed c k = slice_index_or (passed c) k []

-- no more passed than the sender has steps, each block may stand on its output, and what passed on two connections of one
-- output agrees as far as both go
pub record Fitting (scene : Scene) (passed : Passed) : Type 0 where
  pub few : (c : ℕ) → c < length scene.links → length (passed c) ≤ steps scene (sender scene c)
  pub fits : (c k : ℕ) → c < length scene.links → k < length (passed c)
      → IsProperBlock (output_of scene c).direction (output_of scene c).kind (output_of scene c) (clock scene (sender scene c) k) (clock scene (sender scene c) (k + 1)) (passed_on passed c k)
  pub agree : (c d k : ℕ) → c < length scene.links → d < length scene.links → sender scene c ≡ sender scene d → (link_at scene c).from_port ≡ (link_at scene d).from_port
      → k < length (passed c) → k < length (passed d) → passed_on passed c k ≡ passed_on passed d k

-- a proper table that begins on each connection with what passed
pub record Begins (scene : Scene) (passed : Passed) (table : Table) : Type 0 where
  pub proper : IsProper scene table
  pub there : (c : ℕ) → c < length scene.links → length (passed c) ≤ length (steps_of table (sender scene c))
  pub same : (c k : ℕ) → c < length scene.links → k < length (passed c) → block_on scene table c k ≡ passed_on passed c k

-- all wanted blocks passed, and they are those of the lives over a table
pub record AreOfLives (scene : Scene) (passed : Passed) (table : Table) : Type 0 where
  pub all : (c : ℕ) → c < length scene.links → length (passed c) ≡ wanted_blocks scene c
  pub lived : (c k : ℕ) → c < length scene.links → k < length (passed c) → passed_on passed c k ≡ block_on scene (again scene table) c k

-- What a call of a machine did, at the machine and at the end.
use Rattle.std.specs.Prelude.{ℕ, ◌+◌, ◌<◌, ◌≡◌, List, length, replicate, slice_set, None, Some}
use Rattle.music_base.specs.declared.item.Block.{Block}
use Rattle.scene_model.specs.Logs.{step_rows}
use Rattle.scene_model.specs.Orders.{one_more}
use Rattle.scene_model.specs.Scenes.{link_at, sender}
use Rattle.scene_model.specs.Tables.{IsProper, Table, block_on}
use Rattle.scene_model.specs.declared.row.Row.{Row}
use Rattle.scene_model.specs.declared.scene.Scene.{Scene}
use Rattle.app_turn.specs.Machines.{Follows, HasBlock, IsPending, Machine, pending_on}
use Rattle.app_turn.specs.declared.turned.Turned.{Turned}
use Rattle.app_turn.specs.declared.turned.Turned.TheVariants.{Acted, NotYet}
use Rattle.port_buffers.specs.declared.ends.PutEnd as PutEnd
use Rattle.port_buffers.specs.declared.ends.TakeEnd as TakeEnd

-- the block was taken from connection c
pub record Took (before : Machine) (c : ℕ) (block : Block) (after : Machine) : Type 0 where
  pub same_scene : after.scene ≡ before.scene
  pub same_app : after.app ≡ before.app
  pub same_ran : after.ran ≡ before.ran
  pub same_put : after.put ≡ before.put
  pub same_pending : after.pending ≡ before.pending
  pub counts : after.taken ≡ one_more before.taken c
  pub follows : (table : Table) → Follows before table → HasBlock before.scene table c block.number → block_on before.scene table c block.number ≡ block.items → Follows after table

-- the block of connection c was put
pub record Gave (before : Machine) (c : ℕ) (after : Machine) : Type 0 where
  pub same_scene : after.scene ≡ before.scene
  pub same_app : after.app ≡ before.app
  pub same_ran : after.ran ≡ before.ran
  pub same_taken : after.taken ≡ before.taken
  pub counts : after.put ≡ one_more before.put c
  pub owes : after.pending ≡ slice_set before.pending c None
  pub follows : (table : Table) → Follows before table → Follows after table

-- a step was run, with these rows. The blocks for the connections of one output are equal
pub record Ran (before after : Machine) (rows : List Row) : Type 0 where
  pub same_scene : after.scene ≡ before.scene
  pub same_app : after.app ≡ before.app
  pub same_put : after.put ≡ before.put
  pub same_taken : after.taken ≡ before.taken
  pub counts : after.ran ≡ before.ran + 1
  pub follows : (table : Table) → Follows before table → Follows after table
  pub are_rows : (table : Table) → Follows before table → rows ≡ step_rows before.scene table before.app before.ran
  pub shared : (c d : ℕ) → c < length before.scene.links → d < length before.scene.links → sender before.scene c ≡ before.app → sender before.scene d ≡ before.app
      → (link_at before.scene c).from_port ≡ (link_at before.scene d).from_port
      → (x y : Block) → pending_on after c ≡ Some x → pending_on after d ≡ Some y → x ≡ y

-- no step was run and no block moved
pub record IsStarted (scene : Scene) (app : ℕ) (m : Machine) : Type 0 where
  pub is_scene : m.scene ≡ scene
  pub is_app : m.app ≡ app
  pub no_step : m.ran ≡ 0
  pub none_put : m.put ≡ replicate (length scene.links) 0
  pub none_taken : m.taken ≡ replicate (length scene.links) 0
  pub follows : (table : Table) → IsProper scene table → Follows m table

module _ {E : Type 0} where
  abbrev pub DidTake : TakeEnd.Ghosts E → E → Machine → ℕ → Turned → E → Machine → Type 0
  DidTake g end m c Acted end' m' = (block : Block) × g.was_taken end block end' × Took m c block m'
  DidTake g end m c NotYet end' m' = g.found_empty end end' × (m' ≡ m)

  abbrev pub DidPut : PutEnd.Ghosts E → E → Machine → ℕ → Turned → E → Machine → Type 0
  DidPut g end m c Acted end' m' = (block : Block) × IsPending m c block × g.was_put end block end' × Gave m c m'
  DidPut g end m c NotYet end' m' = g.found_full end end' × (m' ≡ m)

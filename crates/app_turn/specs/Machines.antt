-- What contracts see of a machine, and when it follows a table.
use Rattle.std.specs.Prelude.{ℕ, ◌+◌, ◌≤◌, ◌<◌, ◌≡◌, min, nat_lt, if◌then◌else◌, Bool, List, [], length, map, slice_index, slice_index_or, Option, None, Some, IfSome, MatchOption}
use Rattle.std.specs.List.{filter}
use Rattle.music_base.specs.declared.item.Item.{Item}
use Rattle.music_base.specs.declared.item.Block.{Block}
use Rattle.scene_model.specs.Clocks.{steps, wanted, wanted_blocks}
use Rattle.scene_model.specs.Lives.{state_before, step_output}
use Rattle.scene_model.specs.Orders.{EachFrom, EachTo}
use Rattle.scene_model.specs.Scenes.{input_of, link_at, receiver, sender}
use Rattle.scene_model.specs.Tables.{IsProper, Table, block_on, steps_of}
use Rattle.scene_model.specs.declared.scene.Scene.{Scene}
use Rattle.scene_model.specs.declared.port.PortKind.{PortKind}
use Rattle.scene_model.specs.declared.port.PortKind.TheVariants.{Values}
use Rattle.scene_model.specs.Due.{is_due_from}
use Rattle.port_inbox.specs.Due.{items_numbered}
use Rattle.port_inbox.specs.Samples.{last_two, table_block}
use Rattle.port_buffers.specs.Shapes.{FitsShape}
use Rattle.app_turn.specs.Shapes.{shape}

-- An application of a scene: the steps run, by connection of the scene the blocks put and taken, the truth values of its
-- `when` rules, by connection what is kept of its blocks (of events and messages what is due in the next step or later, of
-- values the last two blocks), and by connection the block of the last step that was not put.
pub record Machine : Type 0 where
  pub scene : Scene
  pub app : ℕ
  pub ran : ℕ
  pub put : List ℕ
  pub taken : List ℕ
  pub state : List Bool
  pub waiting : List (List Block)
  pub pending : List (Option Block)

abbrev pub put_by : Machine → ℕ → ℕ
put_by m c = slice_index m.put c

abbrev pub taken_by : Machine → ℕ → ℕ
taken_by m c = slice_index m.taken c

abbrev pub waiting_on : Machine → ℕ → List Block
waiting_on m c = slice_index_or m.waiting c []

abbrev pub pending_on : Machine → ℕ → Option Block
pending_on m c = slice_index_or m.pending c None

-- ---- following a table

-- what step k of its sender puts out for connection c, in the lives over a table
abbrev pub life_block : Scene → Table → ℕ → ℕ → List Item
life_block scene table c k = slice_index_or (step_output scene table (sender scene c) k) (link_at scene c).from_port []

-- the table has block k of a connection
abbrev pub HasBlock : Scene → Table → ℕ → ℕ → Type 0
HasBlock scene table c k = k < length (steps_of table (sender scene c))

-- of the first n blocks of a connection all that is due from step j on, and nothing else; of values the last two blocks
abbrev pub KeepsOf : PortKind → Scene → Table → ℕ → ℕ → ℕ → List Block → Type 0
KeepsOf Values scene table j c n blocks = blocks ≡ map (table_block scene table c) (last_two n)
KeepsOf _ scene table j c n blocks = (k : ℕ) → items_numbered blocks k ≡ (if nat_lt k n then filter (is_due_from scene c j) (block_on scene table c k) else [])

pub record Follows (m : Machine) (table : Table) : Type 0 where
  pub proper : IsProper m.scene table
  pub there : EachTo m.scene m.app (λ c. taken_by m c ≤ length (steps_of table (sender m.scene c)))
  pub keeps : EachTo m.scene m.app (λ c. KeepsOf (input_of m.scene c).kind m.scene table m.ran c (taken_by m c) (waiting_on m c))
  pub truths : m.state ≡ state_before m.scene table m.app m.ran
  pub owed : EachFrom m.scene m.app (λ c. IfSome (pending_on m c) (λ block. block.items ≡ life_block m.scene table c block.number))

-- ---- what a machine wants

pub record WantsTake (m : Machine) (c : ℕ) : Type 0 where
  pub link : c < length m.scene.links
  pub here : receiver m.scene c ≡ m.app
  pub step_left : m.ran < steps m.scene m.app
  pub is_wanted : taken_by m c < wanted m.scene c m.ran

pub record WantsRun (m : Machine) : Type 0 where
  pub step_left : m.ran < steps m.scene m.app
  pub all_taken : EachTo m.scene m.app (λ c. taken_by m c ≡ wanted m.scene c m.ran)
  pub all_put : EachFrom m.scene m.app (λ c. put_by m c ≡ min m.ran (wanted_blocks m.scene c))

pub record WantsPut (m : Machine) (c : ℕ) : Type 0 where
  pub link : c < length m.scene.links
  pub here : sender m.scene c ≡ m.app
  pub made : put_by m c < m.ran
  pub is_wanted : put_by m c < wanted_blocks m.scene c

pub record HasFinished (m : Machine) : Type 0 where
  pub all_run : m.ran ≡ steps m.scene m.app
  pub all_put : EachFrom m.scene m.app (λ c. put_by m c ≡ wanted_blocks m.scene c)

-- ---- blocks at its ends

-- the next block on a connection to it: it has the count taken as its number, and fits
pub record IsNext (m : Machine) (c : ℕ) (block : Block) : Type 0 where
  pub numbered : block.number ≡ taken_by m c
  pub fits : FitsShape (shape m.scene c) block

-- the block that it has for a connection: its number is the count put, its step is the last one run, and it fits
pub record IsPending (m : Machine) (c : ℕ) (block : Block) : Type 0 where
  pub is : pending_on m c ≡ Some block
  pub numbered : block.number ≡ put_by m c
  pub of_last : block.number + 1 ≡ m.ran
  pub fits : FitsShape (shape m.scene c) block

-- what its type keeps: a connection has the block of the last step, or none where that was put or no step wants it
abbrev pub IsPendingAt : Scene → ℕ → ℕ → ℕ → Option Block → Type 0
IsPendingAt scene c ran put pending = MatchOption pending (put ≡ min ran (wanted_blocks scene c))
    (λ block. (block.number ≡ put) × (put + 1 ≡ ran) × (put < wanted_blocks scene c) × FitsShape (shape scene c) block)

-- What of a connection's blocks is due in a step, or in it or a later one.
use Rattle.std.specs.Prelude.{ℕ, suc, ◌≤◌, ◌<◌, Bool, false, ◌==◌, if◌then◌else◌, List, [], ◌∷◌}
use Rattle.std.specs.List.{AllByRecursion, filter, list_any}
use Rattle.music_base.specs.Clocks.{due_step_from}
use Rattle.music_base.specs.Items.{time_of}
use Rattle.music_base.specs.declared.item.Block.{Block}
use Rattle.music_base.specs.declared.item.Item.{Item}
use Rattle.music_base.specs.declared.item.Item.TheVariants.{Event, Message, Value}
use Rattle.scene_model.specs.Due.{is_step_from}
use Rattle.scene_model.specs.Tables.{is_step}

-- ---- one item

-- something of this time is due in the step, over a connection of this latency, at a receiver of that start and tick
abbrev pub falls_in : ℕ → ℕ → ℕ → ℕ → ℕ → Bool
falls_in start tick step latency time = is_step step (due_step_from time latency start tick)

-- an event or a message is due in the step or later. A value never is: it is read
abbrev pub falls_from : ℕ → ℕ → ℕ → ℕ → Item → Bool
falls_from start tick step latency (Event e) = is_step_from step (due_step_from e.time latency start tick)
falls_from start tick step latency (Message m) = is_step_from step (due_step_from m.time latency start tick)
falls_from start tick step latency (Value global value) = false

-- times that can be added to a latency
abbrev pub AreShort : List Item → Type 0
AreShort = AllByRecursion (λ item. time_of item ≤ 10_000_000_000_000_000)

-- ---- blocks

-- the items of the block of a number, among those that are kept
abbrev pub items_numbered : List Block → ℕ → List Item
items_numbered [] k = []
items_numbered (block ∷ blocks) k = if block.number == k then block.items else items_numbered blocks k

-- blocks in the order of their numbers, from a on and below n
abbrev pub IsNumbered : ℕ → ℕ → List Block → Type 0
IsNumbered a n [] = Unit {0}
IsNumbered a n (block ∷ blocks) = (a ≤ block.number) × (block.number < n) × IsNumbered (suc block.number) n blocks

-- of each block the items that pass, where there are any
abbrev pub left_in : (Item → Bool) → List Block → List Block
left_in test [] = []
left_in test (block ∷ blocks) =
    if list_any test block.items
    then record { number = block.number; items = filter test block.items } ∷ left_in test blocks
    else left_in test blocks

-- What the blocks of a connection hold.
use Rattle.std.specs.Prelude.{ℕ, ◌+◌, ◌*◌, ◌≤◌, ◌<◌, ◌≡◌, ◌==◌, true, List, ⊤}
use Rattle.std.specs.List.{AllByRecursion, list_any}
use Rattle.music_base.specs.Items.{AreValues, IsMessageWithin}
use Rattle.music_base.specs.declared.item.Item.{Item}
use Rattle.music_base.specs.declared.item.Item.TheVariants as items
use Rattle.music_base.specs.declared.item.Block.{Block}
use Rattle.port_buffers.specs.declared.shapes.BlockShape.{BlockShape}
use Rattle.port_buffers.specs.declared.shapes.BlockShape.TheVariants.{Any, Events, Values, Messages}

-- an event of one of these indices, of a step that lasts from one time up to another
abbrev pub IsEventOf : List ℕ → ℕ → ℕ → Item → Type 0
IsEventOf indices from to (items.Event e) = (from ≤ e.time) × (e.time < to) × (list_any (λ i. i == e.global) indices ≡ true)
IsEventOf indices from to _ = ⊥

-- the block holds what the shape allows in the step of its number: the sender's steps begin at its start and last a tick each
abbrev pub FitsShape : BlockShape → Block → Type 0
FitsShape Any block = ⊤
FitsShape (Events start tick indices) block = AllByRecursion (IsEventOf indices (start + block.number * tick) (start + (block.number + 1) * tick)) block.items
FitsShape (Values indices) block = AreValues indices block.items
FitsShape (Messages start tick) block = AllByRecursion (IsMessageWithin (start + block.number * tick) (start + (block.number + 1) * tick)) block.items

-- it fits and has this number; a block of any shape may have any number
abbrev pub FitsAt : BlockShape → ℕ → Block → Type 0
FitsAt Any n block = ⊤
FitsAt (Events start tick indices) n block = FitsShape (Events start tick indices) block × (block.number ≡ n)
FitsAt (Values indices) n block = FitsShape (Values indices) block × (block.number ≡ n)
FitsAt (Messages start tick) n block = FitsShape (Messages start tick) block × (block.number ≡ n)

-- The items of a block: their times, and what a block of values or of messages may hold.
use Rattle.std.specs.Prelude.{◌≡◌, ◌≤◌, ◌<◌, ⊤, ℕ, List, [], ◌∷◌}
use Rattle.music_base.specs.declared.item.Item.{Item}
use Rattle.music_base.specs.declared.item.Item.TheVariants.{Event, Value, Message}

-- the time of an event or a message. A value has none: its block stands for the time
abbrev pub time_of : Item → ℕ
time_of (Event e) = e.time
time_of (Message m) = m.time
time_of (Value global value) = 0

-- a message of a step that lasts from one time up to another
abbrev pub IsMessageWithin : ℕ → ℕ → Item → Type 0
IsMessageWithin from to (Message m) = (from ≤ m.time) × (m.time < to)
IsMessageWithin from to _ = ⊥

-- one value for each of the indices, in their order
abbrev pub AreValues : List ℕ → List Item → Type 0
AreValues [] [] = ⊤
AreValues (g ∷ gs) (Value global value ∷ items) = (global ≡ g) × AreValues gs items
AreValues _ _ = ⊥

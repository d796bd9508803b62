-- Inboxes for events and messages: what they keep, and how each call changes it.
use Rattle.std.specs.Prelude.{ℕ, ◌+◌, ◌-◌, List, [], ◌∷◌, ◌++◌, length, map, slice_index_or, slice_set}
use Rattle.std.specs.List.{filter, list_any}
use Rattle.music_base.specs.declared.item.Block.{Block}
use Rattle.event_routes.specs.Routing.{Route}
use Rattle.port_inbox.specs.Due.{falls_from}
use Rattle.port_inbox.specs.declared.arrivals.InboxLink.{InboxLink}

-- a connection of an inbox: how many blocks were admitted, which are kept, and for how many more there is room
pub record Line : Type 0 where
  pub link : InboxLink
  pub admitted : ℕ
  pub kept : List Block
  pub spare : ℕ

-- an inbox: its connections, the routes of each (one for messages has none), the start and the tick of its application, and
-- the step last delivered, 0 before the first
pub record Inbox : Type 0 where
  pub lines : List Line
  pub routes : List (List Route)
  pub start : ℕ
  pub tick : ℕ
  pub delivered : ℕ

abbrev pub no_line : Line
no_line = record { link = record { from_app = 0; from_port = 0; latency = 0 }; admitted = 0; kept = []; spare = 0 }

abbrev pub line_at : Inbox → ℕ → Line
line_at inbox i = slice_index_or inbox.lines i no_line

-- ---- a new inbox

abbrev pub fresh_line : InboxLink → Line
fresh_line link = record { link = link; admitted = 0; kept = []; spare = 0 }

-- to which no block was admitted, and which delivered no step
abbrev pub fresh_inbox : List InboxLink → List (List Route) → ℕ → ℕ → Inbox
fresh_inbox links routes start tick = record { lines = map fresh_line links; routes = routes; start = start; tick = tick; delivered = 0 }

-- ---- its changes

-- with another connection at a place
abbrev pub with_line : Inbox → ℕ → Line → Inbox
with_line inbox i line = record inbox { lines = slice_set inbox.lines i line }

-- with one more block, which takes the room of one
abbrev pub with_block : Line → Block → Line
with_block line block = record line { admitted = line.admitted + 1; kept = line.kept ++ block ∷ []; spare = line.spare - 1 }

-- the blocks of which something is due in the step or later
abbrev pub kept_from : ℕ → ℕ → ℕ → Line → List Block
kept_from start tick step line = filter (λ (block : Block). list_any (falls_from start tick step line.link.latency) block.items) line.kept

-- without the others, whose room is free again
abbrev pub forgotten : ℕ → ℕ → ℕ → Line → Line
forgotten start tick step line =
    record line { kept = kept_from start tick step line; spare = line.spare + (length line.kept - length (kept_from start tick step line)) }

-- after the delivery of a step
abbrev pub moved_to : ℕ → Inbox → Inbox
moved_to step inbox = record inbox { lines = map (forgotten inbox.start inbox.tick step) inbox.lines; delivered = step }

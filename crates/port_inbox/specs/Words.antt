-- What an inbox for messages delivers.
use Rattle.std.specs.Prelude.{ℕ, if◌then◌else◌, List, map, Option, None, Some}
use Rattle.std.specs.List.{filter_map, flat_map}
use Rattle.music_base.specs.Numbers.{in_order}
use Rattle.music_base.specs.declared.item.Block.{Block}
use Rattle.music_base.specs.declared.item.Item.{Item}
use Rattle.music_base.specs.declared.item.Item.TheVariants.{Message}
use Rattle.scene_model.specs.Tables.{Sent, sent_cmp}
use Rattle.port_inbox.specs.Due.{falls_in}
use Rattle.port_inbox.specs.Holding.{heard_of}
use Rattle.port_inbox.specs.Inboxes.{Inbox, Line}
use Rattle.port_inbox.specs.declared.arrivals.Heard.{Heard}
use Rattle.port_inbox.specs.declared.arrivals.InboxLink.{InboxLink}

-- a message that is due in the step, with the places of its sender
unfoldable pub said : ℕ → ℕ → ℕ → InboxLink → Item → Option Sent
said start tick step link (Message m) =
    if falls_in start tick step link.latency m.time
    then Some (record { item = Message m; app = link.from_app; port = link.from_port })
    else None
said start tick step link _ = None

-- what was said in the blocks of a connection, block by block
abbrev pub line_said : ℕ → ℕ → ℕ → Line → List Sent
line_said start tick step line = flat_map (λ (block : Block). filter_map (said start tick step line.link) block.items) line.kept

-- what an inbox delivers in a step: the words on all its connections, in order
unfoldable pub words_delivered : ℕ → Inbox → List Heard
words_delivered step inbox = map (λ (sent : Sent). heard_of sent.item) (in_order sent_cmp (flat_map (line_said inbox.start inbox.tick step) inbox.lines))

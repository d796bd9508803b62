use Rattle.std.proofs.Common.{◌≡◌, take, map}
use Rattle.app_turn.specs.PortInboxes.{message_of}
use Rattle.app_turn.proofs.reading.items_of_words.Given as goal

abbrev pub invariant-loop-heard : goal.invariant-loop-heard
invariant-loop-heard l = l.items ≡ map message_of (take l.heard-index l.words)

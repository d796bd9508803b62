use Rattle.std.proofs.Common.{◌≡◌, ◌<◌, ℕ, length}
use Rattle.app_turn.specs.PortInboxes.{IsFresh, IsPortInbox, inbox_at}
use Rattle.app_turn.proofs.opening.inboxes_of.Given as goal

abbrev pub invariant-loop-port : goal.invariant-loop-port
invariant-loop-port l = record {
  count : length l.all.items ≡ l.port;
  each : (p : ℕ) → p < l.port → IsPortInbox l.scene l.app p 0 (inbox_at l.all.items p) × IsFresh (inbox_at l.all.items p);
}

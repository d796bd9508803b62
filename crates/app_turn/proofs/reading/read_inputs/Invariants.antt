use Rattle.std.proofs.Common.{◌≡◌, ◌<◌, ◌≤◌, ℕ, length, map, take}
use Rattle.scene_model.specs.Lives.{input_by}
use Rattle.scene_model.specs.Scenes.{port_at}
use Rattle.scene_model.specs.Tables.{IsProper, Table}
use Rattle.music_base.specs.Numbers.{below}
use Rattle.std.specs.Prelude.{slice_index_or, []}
use Rattle.rule_turns.specs.Turning.{IsInput}
use Rattle.app_turn.specs.PortInboxes.{HoldsAt, IsSettled, inbox_at}
use Rattle.app_turn.proofs.reading.read_inputs.Given as goal

abbrev pub invariant-loop-port : goal.invariant-loop-port
invariant-loop-port l = record {
  counted : length l.inboxes.items ≡ length l.initial.inboxes.items;
  settled : (p : ℕ) → p < l.port → IsSettled l.step (inbox_at l.initial.inboxes.items p) (inbox_at l.inboxes.items p);
  rest : (p : ℕ) → l.port ≤ p → inbox_at l.inboxes.items p ≡ inbox_at l.initial.inboxes.items p;
  all_count : l.port ≤ length l.all.items;
  shaped : (p : ℕ) → p < l.port → IsInput (port_at l.scene l.app p).direction (port_at l.scene l.app p).kind (port_at l.scene l.app p) (slice_index_or (take l.port l.all.items) p []);
  reads : (table : Table) → IsProper l.scene table → ((p : ℕ) → p < length l.initial.inboxes.items → HoldsAt l.scene l.app p l.step (inbox_at l.initial.inboxes.items p) table)
      → take l.port l.all.items ≡ map (λ p. input_by (port_at l.scene l.app p).direction (port_at l.scene l.app p).kind l.scene table l.app l.step p) (below l.port);
}

use Rattle.std.proofs.Common.{◌≡◌, ◌≤◌, [], length}
use Rattle.text_words.specs.InTurn.{in_turn}
use Rattle.text_words.specs.Words.{declarations}
use Rattle.scene_model.specs.Limits.{most_ports}
use Rattle.port_table.specs.Ports.{port_beside}
use Rattle.port_table.proofs.reading.read_ports.Given as goal

abbrev pub invariant-loop-piece : goal.invariant-loop-piece
invariant-loop-piece l = record {
  read : in_turn (port_beside l.np) l.ports (declarations l.rest) ≡ in_turn (port_beside l.np) [] (declarations l.text);
  few : length l.ports ≤ most_ports;
}

abbrev pub decreases-loop-piece : goal.decreases-loop-piece
decreases-loop-piece l = length l.rest

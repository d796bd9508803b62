use Rattle.std.proofs.Common.{[], ◌∷◌, arith, length-append}
use Rattle.text_words.specs.Words.{declarations, words}
use Rattle.text_words.proofs.Turns.{in_turn-next}
use Rattle.port_table.specs.Ports.{port_beside}
use Rattle.port_table.proofs.reading.read_ports.Goals as goal

pub loop-piece-preserved : goal.loop-piece-preserved
loop-piece-preserved c = record {
  read = rw c.in_ok-push.ensures.ok
      (in_turn-next (port_beside c.args.np) c.loop-piece.ports (words c.in-Some.piece.now) c.in_ok-port.port _ (declarations c.in-Some.others.now) _
      c.in-Some.ensures.piece (rw c.as_slice.ensures at c.in_ok-port.ensures.port) c.loop-piece.invariant.read);
  few = rw c.in_ok-push.ensures.ok (omega (arith, rw c.as_slice.ensures at c.in_ok-port.ensures.few, length-append c.loop-piece.ports (c.in_ok-port.port ∷ [])));
}

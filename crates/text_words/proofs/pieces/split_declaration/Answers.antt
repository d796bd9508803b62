use Rattle.std.proofs.Common.{sym, length}
use Rattle.std.proofs.lemmas.Bool.{eqb-true}
use Rattle.text_words.proofs.Cutting.{declarations_none_left}
use Rattle.text_words.proofs.pieces.split_declaration.Goals as goal

pub returns-clause-piece : goal.returns-clause-piece
returns-clause-piece c = declarations_none_left c.loop-rest.rest.now c.args.text.now (eqb-true (length c.loop-rest.rest.now) 0 (sym c.loop-rest-test.ensures)) c.loop-rest.invariant.pieces

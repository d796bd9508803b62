use Rattle.std.proofs.Common.{sym, length}
use Rattle.std.proofs.lemmas.Bool.{eqb-true}
use Rattle.text_words.proofs.Cutting.{words_none_left}
use Rattle.text_words.proofs.pieces.split_word.Goals as goal

pub returns-clause-word : goal.returns-clause-word
returns-clause-word c = words_none_left c.loop-rest.rest.now c.args.piece.now (eqb-true (length c.loop-rest.rest.now) 0 (sym c.loop-rest-test.ensures)) c.loop-rest.invariant.words

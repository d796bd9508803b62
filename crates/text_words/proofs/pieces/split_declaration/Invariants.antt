use Rattle.std.proofs.Common.{◌≡◌, ◌≤◌, length}
use Rattle.text_words.specs.Words.{declarations}
use Rattle.text_words.proofs.pieces.split_declaration.Given as goal

abbrev pub invariant-loop-rest : goal.invariant-loop-rest
invariant-loop-rest l = record { pieces : declarations l.rest ≡ declarations l.text; fewer : length l.rest ≤ length l.text }

abbrev pub decreases-loop-rest : goal.decreases-loop-rest
decreases-loop-rest l = length l.rest

use Rattle.config_text.proofs.writing.needs_quotes.Goals.{then-begins_with_blank, else-begins_with_blank}
use Rattle.config_text.proofs.writing.needs_quotes.Goals as goal

pub returns-else-ends_with_blank : goal.returns-else-ends_with_blank
returns-else-ends_with_blank c = elim c.if-begins_with_blank.branch [
  | then-begins_with_blank w ↦ absurd cc
  | else-begins_with_blank w ↦ rw (← c.begins_with_blank.ensures, w.if-begins_with_blank.false, ← w.ends_with_blank.ensures, ← w.value-is, c.if-ends_with_blank.false) c.has.ensures
]

use Rattle.std.proofs.Common.{sym}
use Rattle.text_words.specs.Words.{words}
use Rattle.port_table.proofs.OptionSteps.{flag_next, value_next}
use Rattle.port_table.proofs.options.next_option.Goals as goal

pub returns-then-is_flag-clause-next : goal.returns-then-is_flag-clause-next
returns-then-is_flag-clause-next c = flag_next c.args.direction c.args.kind c.args.options c.in_ok-options.options c.args.word.now (words c.args.others.now) (sym c.if-is_flag.ensures) (sym c.in_ok-options.ensures)

pub returns-clause-next : goal.returns-clause-next
returns-clause-next c =
    rw c.in_ok-value.ensures.word
    (value_next c.args.direction c.args.kind c.args.options c.in_ok-options-2.options c.args.word.now c.in_ok-value.value.now (words c.in_ok-value.others.now) (sym c.if-is_flag.ensures) (sym c.in_ok-options-2.ensures))

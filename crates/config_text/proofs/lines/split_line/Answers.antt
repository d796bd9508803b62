use Rattle.std.proofs.Common.{arith, sym, ◌-◌, ◌+◌, length, drop}
use Rattle.std.proofs.lemmas.List.{take_all, length-drop, drop_all}
use Rattle.config_text.specs.Lines.{raw_lines}
use Rattle.config_text.proofs.Cutting.{split_at_end, no_end}
use Rattle.config_text.proofs.lines.split_line.Goals as goal

pub returns-in-Some-clause-lines : goal.returns-in-Some-clause-lines
returns-in-Some-clause-lines c =
    rw (take_all (length c.args.bytes.now - (c.in-Some.end + 1)) (drop (c.in-Some.end + 1) c.args.bytes.now) (omega (arith, length-drop (c.in-Some.end + 1) c.args.bytes.now)))
    (split_at_end c.args.bytes.now c.in-Some.end c.in-Some.ensures.place)

pub returns-in-None-clause-lines : goal.returns-in-None-clause-lines
unfolding raw_lines
returns-in-None-clause-lines c =
    rw (take_all (length c.args.bytes.now - length c.args.bytes.now) (drop (length c.args.bytes.now) c.args.bytes.now) (omega (arith, length-drop (length c.args.bytes.now) c.args.bytes.now)), drop_all (length c.args.bytes.now) c.args.bytes.now (omega arith))
    (no_end c.args.bytes.now (omega arith) (sym c.in-None.ensures.place))

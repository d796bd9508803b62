use Rattle.std.proofs.Common.{sym, length}
use Rattle.std.proofs.lemmas.Bool.{eqb-true}
use Rattle.config_text.proofs.FrontToBack.{read_none, read_on, fault_at_line, read_all}
use Rattle.config_text.proofs.reading.read_config.Goals as goal

pub loop-rest-init : goal.loop-rest-init
loop-rest-init c = read_none c.args.bytes.now c.new-config.result c.new-config.ensures

pub loop-rest-preserved : goal.loop-rest-preserved
loop-rest-preserved c =
    read_on c.args.bytes.now c.loop-rest.rest.now c.split_line.result.0.now c.split_line.result.1.now c.loop-rest.line c.loop-rest.config c.read_line.new.config
    c.loop-rest.invariant c.split_line.ensures.lines c.split_line.ensures.fewer c.in-Ok.ensures.ok

pub returns-in-Err-clause-faulty : goal.returns-in-Err-clause-faulty
returns-in-Err-clause-faulty c =
    rw c.at_line.ensures
    (fault_at_line c.args.bytes.now c.loop-rest.rest.now c.split_line.result.0.now c.split_line.result.1.now c.loop-rest.line c.loop-rest.config c.in-Err.fault
    c.if-bytes-gt-LONGEST_TEXT.false c.loop-rest.invariant c.split_line.ensures.lines c.in-Err.ensures.fault)

pub returns-clause-spelled : goal.returns-clause-spelled
returns-clause-spelled c =
    read_all c.args.bytes.now c.loop-rest.rest.now c.loop-rest.line c.loop-rest.config c.if-bytes-gt-LONGEST_TEXT.false
    (eqb-true (length c.loop-rest.rest.now) 0 (sym c.loop-rest-test.ensures)) c.loop-rest.invariant

use Rattle.std.proofs.Common.{◌≡◌, map, take, codes}
use Rattle.std.proofs.lemmas.List.{take_all}
use Rattle.music_base.specs.Lines.{ended}
use Rattle.cycle_check.specs.CycleTexts.{cycle_text, wait_line}
use Rattle.cycle_check.proofs.JoinedLines.{one_line_more}
use Rattle.cycle_check.proofs.texts.write_cycle.Goals as goal

pub push_wait-requires : goal.push_wait-requires
push_wait-requires c =
    rw (c.wait-item.is, c.as_slice-waits.ensures.value)
    (c.requires.between c.loop-wait.wait-index c.wait-item.result (rw c.as_slice-waits.ensures.value at c.loop-wait-test.true))

pub loop-wait-preserved : goal.loop-wait-preserved
loop-wait-preserved c =
    rw (c.in_ok-push_wait.ensures, c.loop-wait.invariant)
    (one_line_more (wait_line (map (λ name. name.now) c.args.names.now)) (ended (codes "uncovered cycle")) c.as_slice-waits.result.now c.loop-wait.wait-index c.wait-item.result c.loop-wait-test.true c.wait-item.is)

pub push_sums-requires-clause-bounded : goal.push_sums-requires-clause-bounded
push_sums-requires-clause-bounded c = rw c.as_slice-waits.ensures.value c.requires.bounded

pub push_sums-requires-clause-short : goal.push_sums-requires-clause-short
push_sums-requires-clause-short c = rw c.as_slice-waits.ensures.value c.requires.short

pub returns : goal.returns
unfolding cycle_text
returns c =
    let all : take c.loop-wait.wait-index c.as_slice-waits.result.now ≡ c.as_slice-waits.result.now = take_all c.loop-wait.wait-index c.as_slice-waits.result.now c.loop-wait-test.false in
    rw (c.in_ok-push_sums.ensures, c.loop-wait.invariant, all, c.as_slice-waits.ensures.value)

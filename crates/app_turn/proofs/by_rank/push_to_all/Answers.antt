use Rattle.std.proofs.Common.{◌<◌, ◌∙◌, arith, length}
use Rattle.std.proofs.lemmas.List.{length-set}
use Rattle.app_turn.proofs.ByRank.{done_more, kept_at}
use Rattle.app_turn.proofs.by_rank.push_to_all.Goals as goal

pub loop-rank-preserved : goal.loop-rank-preserved
loop-rank-preserved c =
    let rank = c.loop-rank.rank in
    let lists = c.loop-rank.lists.items in
    let now = c.push_place.new.lists.items in
    let pushed = c.in_ok-push_place.ensures in
    let inside : rank < length lists = omega (arith, c.loop-rank.invariant.counted, c.loop-rank-test.true, c.len-rank-end.ensures) in
    record {
      counted = rw (pushed, length-set) c.loop-rank.invariant.counted;
      done = done_more c.args.lists.now.items lists now rank c.args.place inside pushed c.loop-rank.invariant.done c.loop-rank.invariant.rest;
      rest = λ r past. kept_at lists now rank c.args.place r (λ e. omega (arith, e, past)) pushed ∙ c.loop-rank.invariant.rest r (omega (arith, past));
    }

pub returns-clause-pushed : goal.returns-clause-pushed
returns-clause-pushed c = λ r small. c.loop-rank.invariant.done r (omega (arith, small, c.loop-rank-test.false, c.loop-rank.auto.rank-end, c.len-rank-end.ensures))

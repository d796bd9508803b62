use Rattle.tick_plan.proofs.Rounds.{relaxed_step, gap_step, less_step}
use Rattle.tick_plan.proofs.relaxing.relax_each.Goals as goal

pub loop-at-preserved : goal.loop-at-preserved
loop-at-preserved c = record {
  search = c.in_ok-more.ensures.search;
  relaxed = relaxed_step _ _ _ _ _ _ _ c.in_ok-more.ensures.relaxed c.in_ok-more.ensures.same c.loop-at.invariant.relaxed;
  no_more = gap_step c.loop-at.raised _ _ _ _ c.in_ok-more.ensures.same c.in_ok-more.ensures.raised c.loop-at.invariant.no_more;
  less = less_step _ _ _ _ _ c.in_ok-more.ensures.same c.in_ok-more.ensures.raised c.loop-at.invariant.no_more c.loop-at.invariant.less;
}

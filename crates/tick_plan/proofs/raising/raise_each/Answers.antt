use Rattle.tick_plan.proofs.Searching.{IsRising-still}
use Rattle.tick_plan.proofs.Rounds.{relaxed_step, gap_step, less_step}
use Rattle.tick_plan.proofs.raising.raise_each.Goals as goal

pub loop-at-preserved : goal.loop-at-preserved
loop-at-preserved g c = record {
  rising = IsRising-still _ _ _ _ _ c.loop-at.invariant.rising c.raise-more.ensures.walks;
  relaxed = relaxed_step _ _ _ _ _ _ _ c.raise-more.ensures.relaxed c.raise-more.ensures.same c.loop-at.invariant.relaxed;
  no_more = gap_step c.loop-at.raised _ _ _ _ c.raise-more.ensures.same c.raise-more.ensures.raised c.loop-at.invariant.no_more;
  less = less_step _ _ _ _ _ c.raise-more.ensures.same c.raise-more.ensures.raised c.loop-at.invariant.no_more c.loop-at.invariant.less;
}

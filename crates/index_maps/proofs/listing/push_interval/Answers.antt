use Rattle.std.proofs.Common.{◌≡◌, ◌+◌, ◌-◌, refl, arith, append_assoc}
use Rattle.music_base.proofs.Lists.{range_with_len-more}
use Rattle.index_maps.proofs.listing.push_interval.Goals as goal

pub loop-index-preserved : goal.loop-index-preserved
loop-index-preserved c =
    let first = c.args.interval.first in
    let index = c.loop-index.index in
    let more : index + 1 - first ≡ (index - first) + 1 = omega (arith, c.loop-index.auto) in
    let at : first + (index - first) ≡ index = omega (arith, c.loop-index.auto) in
    record {
      within = omega (arith, c.loop-index-test.true);
      pushed = rw (more, range_with_len-more first (index - first), at, c.in_ok-push.ensures.items, c.loop-index.invariant.pushed, append_assoc) refl;
    }

pub returns : goal.returns
returns c =
    let end : c.args.interval.after - c.args.interval.first ≡ c.loop-index.index - c.args.interval.first = omega (arith, c.loop-index-test.false, c.loop-index.invariant.within) in
    rw end c.loop-index.invariant.pushed

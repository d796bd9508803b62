use Rattle.std.proofs.Common.{true, false, arith}
use Rattle.index_maps.proofs.Repeats.{small_at, repeat_found, entry_mark, one_more_seen}
use Rattle.index_maps.proofs.permuting.repeat_by_marks.Goals as goal

pub index-requires : goal.index-requires
index-requires c = omega (arith, small_at c.args.list.now c.loop-place.place c.requires c.loop-place-test.true, c.loop-place.invariant.size)

pub returns-then-index : goal.returns-then-index
returns-then-index c =
    let seen = entry_mark c.args.list.now c.loop-place.place c.loop-place.seen.items c.index.result.now true c.requires c.loop-place-test.true c.loop-place.invariant c.index.ensures c.if-index.true in
    repeat_found c.args.list.now c.loop-place.place c.loop-place-test.true c.loop-place.invariant.rest seen

pub index_mut-requires : goal.index_mut-requires
index_mut-requires c = omega (arith, small_at c.args.list.now c.loop-place.place c.requires c.loop-place-test.true, c.loop-place.invariant.size)

pub loop-place-preserved : goal.loop-place-preserved
loop-place-preserved c =
    let new = entry_mark c.args.list.now c.loop-place.place c.loop-place.seen.items c.index.result.now false c.requires c.loop-place-test.true c.loop-place.invariant c.index.ensures c.if-index.false in
    one_more_seen c.args.list.now c.loop-place.place c.loop-place.seen.items c.requires c.loop-place-test.true c.loop-place.invariant new

use Rattle.std.proofs.Common.{ℕ, ◌+◌, ◌*◌, ◌^◌, ◌<◌, ◌≤◌, arith}
use Rattle.std.proofs.Math.Nat.{mul-le-mul}
use Rattle.index_maps.specs.declared.span.TheConstants.{INDEX_LIMIT}
use Rattle.index_maps.proofs.Splits.{split_at_ends, split_at_rises}
use Rattle.index_maps.proofs.rank.part_of.Goals as goal

-- so many sizes of a span stay below what a word holds
sizes_below : (rank size : ℕ) → rank ≤ 2 ^ 32 → size ≤ INDEX_LIMIT → rank * size < 2 ^ 64
sizes_below rank size few small =
    let most : rank * size ≤ 2 ^ 32 * INDEX_LIMIT = mul-le-mul few small in
    omega (arith, most)

pub overflow_mul-first : goal.overflow_mul-first
overflow_mul-first c =
    let small : c.from-size.result ≤ INDEX_LIMIT = omega (arith, c.from-size.ensures, c.size.ensures.size, c.size.ensures.limit) in
    omega (arith, sizes_below c.from-rank.result c.from-size.result (omega (arith, c.from-rank.ensures, c.ranges.rank.fits)) small)

pub overflow_cast-first : goal.overflow_cast-first
overflow_cast-first c =
    let small : c.from-size.result ≤ INDEX_LIMIT = omega (arith, c.from-size.ensures, c.size.ensures.size, c.size.ensures.limit) in
    let some : 0 < c.from-ranks.result = omega (arith, c.from-ranks.ensures, c.requires) in
    let ends = split_at_ends c.from-size.result c.from-ranks.result c.from-rank.result some (omega (arith, c.from-ranks.ensures, c.from-rank.ensures, c.requires)) in
    omega (arith, ends, small)

pub overflow_mul-after : goal.overflow_mul-after
overflow_mul-after c =
    let small : c.from-size.result ≤ INDEX_LIMIT = omega (arith, c.from-size.ensures, c.size.ensures.size, c.size.ensures.limit) in
    omega (arith, sizes_below (c.from-rank.result + 1) c.from-size.result (omega (arith, c.from-rank.ensures, c.ranges.rank.fits)) small)

pub overflow_cast-after : goal.overflow_cast-after
overflow_cast-after c =
    let small : c.from-size.result ≤ INDEX_LIMIT = omega (arith, c.from-size.ensures, c.size.ensures.size, c.size.ensures.limit) in
    let some : 0 < c.from-ranks.result = omega (arith, c.from-ranks.ensures, c.requires) in
    let ends = split_at_ends c.from-size.result c.from-ranks.result (c.from-rank.result + 1) some (omega (arith, c.from-ranks.ensures, c.from-rank.ensures, c.requires)) in
    omega (arith, ends, small)

pub overflow_sub-after : goal.overflow_sub-after
overflow_sub-after c =
    let some : 0 < c.from-ranks.result = omega (arith, c.from-ranks.ensures, c.requires) in
    split_at_rises c.from-size.result c.from-ranks.result c.from-rank.result (c.from-rank.result + 1) some (omega arith)

pub new-requires : goal.new-requires
new-requires c =
    let some : 0 < c.from-ranks.result = omega (arith, c.from-ranks.ensures, c.requires) in
    let ends = split_at_ends c.from-size.result c.from-ranks.result (c.from-rank.result + 1) some (omega arith) in
    omega (arith, overflow_sub-after c, ends, c.from-size.ensures, c.size.ensures.size, c.base.ensures.base, c.base.ensures.limit)

pub returns-clause-base : goal.returns-clause-base
returns-clause-base c = rw (c.new.ensures.base, c.base.ensures.base, c.from-rank.ensures, c.from-size.ensures, c.size.ensures.size, c.from-ranks.ensures)

pub returns-clause-size : goal.returns-clause-size
returns-clause-size c = rw (c.new.ensures.size, c.from-rank.ensures, c.from-size.ensures, c.size.ensures.size, c.from-ranks.ensures) (omega arith)

use Rattle.std.proofs.Common.{◌≡◌, ℕ, pos, ℤ, length, ◌≤ℤ◌, ◌<ℤ◌, FitsSigned, to_z, of_z, refl, ap, ◌∙◌, arith, rules}
use Rattle.std.specs.Prelude.{slice_index}
use Rattle.std.proofs.lemmas.Int.{ints}
use mir.Syntax.{w128}
use Rattle.tick_plan.specs.Room.{need_of}
use Rattle.tick_plan.proofs.Searching.{IsRising-start, heights_low, read_again}
use Rattle.tick_plan.proofs.LeastLimits.{low_starts, enough_covers, less_uncovers, need_of-small, limit_small}
use Rattle.tick_plan.proofs.least.least_limit.Goals as goal

enough_is : (z need : ℤ) (m : ℕ) → FitsSigned w128 z → z ≡ need → to_z w128 (of_z w128 z) ≤ℤ pos m → need ≤ℤ pos m
enough_is z need m fits e h = omega (arith, ints, e, h)

less_is : (z need : ℤ) (m : ℕ) → FitsSigned w128 z → z ≡ need → pos m <ℤ to_z w128 (of_z w128 z) → pos m <ℤ need
less_is z need m fits e h = omega (arith, ints, e, h)

pub raise_all-requires : goal.raise_all-requires
raise_all-requires c =
    let starts = c.deref_mut.ensures.value in
    let e = c.in_ok-heights.ensures in
    IsRising-start _ _ c.deref_mut.result.now _ c.requires.few c.requires.within c.requires.covered (ap length starts ∙ e.counted) refl
    (rw starts (low_starts _ c.args.room.now.without_room.waiter e.high e.others))

pub need-need-requires-clause-top : goal.need-need-requires-clause-top
need-need-requires-clause-top c =
    let same = read_again _ _ _ _ _ _ _ c.raise_all.ensures.walks c.in_ok-heights.heights.ok.0 c.in_ok-heights.ensures.counted c.deref.ensures.value in
    rw same (heights_low _ _ _ _ c.requires.few c.requires.within c.raise_all.ensures.walks)

pub need-need-requires-clause-counted : goal.need-need-requires-clause-counted
need-need-requires-clause-counted c =
    let same = read_again _ _ _ _ _ _ _ c.raise_all.ensures.walks c.in_ok-heights.heights.ok.0 c.in_ok-heights.ensures.counted c.deref.ensures.value in
    rw same c.raise_all.ensures.walks.counted

pub need-need-requires-clause-start : goal.need-need-requires-clause-start
need-need-requires-clause-start c =
    let same = read_again _ _ _ _ _ _ _ c.raise_all.ensures.walks c.in_ok-heights.heights.ok.0 c.in_ok-heights.ensures.counted c.deref.ensures.value in
    let high = ap (λ hs. slice_index hs c.args.room.now.without_room.waiter) c.deref_mut.ensures.value ∙ c.in_ok-heights.ensures.high in
    rw same (omega (arith, high, c.raise_all.ensures.walks.starts_under c.args.room.now.without_room.waiter))

pub returns-clause-covered : goal.returns-clause-covered
returns-clause-covered c =
    let same = read_again _ _ _ _ _ _ _ c.raise_all.ensures.walks c.in_ok-heights.heights.ok.0 c.in_ok-heights.ensures.counted c.deref.ensures.value in
    let n : c.need-need.result ≡ need_of c.args.applications c.args.room.now.without_room c.raise_all.new.heights = rw same at c.need-need.ensures.value in
    let fits : FitsSigned w128 c.need-need.result = search rules in
    enough_covers c.args.applications c.args.waits.now c.args.room.now c.least_times.result c.raise_all.new.heights c.raise_all.ensures.walks.counted
    c.requires.within c.requires.room c.raise_all.ensures.relaxed (enough_is c.need-need.result _ _ fits n c.least_times.ensures.enough)

pub returns-clause-least : goal.returns-clause-least
returns-clause-least c = λ k some below.
    let same = read_again _ _ _ _ _ _ _ c.raise_all.ensures.walks c.in_ok-heights.heights.ok.0 c.in_ok-heights.ensures.counted c.deref.ensures.value in
    let n : c.need-need.result ≡ need_of c.args.applications c.args.room.now.without_room c.raise_all.new.heights = rw same at c.need-need.ensures.value in
    let fits : FitsSigned w128 c.need-need.result = search rules in
    less_uncovers c.args.applications c.args.waits.now c.args.room.now k (slice_index c.deref_mut.result.now) c.raise_all.new.heights
    c.requires.few c.requires.within c.raise_all.ensures.walks c.requires.room
    (ap (λ hs. slice_index hs c.args.room.now.without_room.waiter) c.deref_mut.ensures.value ∙ c.in_ok-heights.ensures.high)
    (λ v ne. ap (λ hs. slice_index hs v) c.deref_mut.ensures.value ∙ c.in_ok-heights.ensures.others v ne)
    (less_is c.need-need.result _ _ fits n (c.least_times.ensures.least k some below))

pub returns-clause-below : goal.returns-clause-below
returns-clause-below c =
    let same = read_again _ _ _ _ _ _ _ c.raise_all.ensures.walks c.in_ok-heights.heights.ok.0 c.in_ok-heights.ensures.counted c.deref.ensures.value in
    let n : c.need-need.result ≡ need_of c.args.applications c.args.room.now.without_room c.raise_all.new.heights = rw same at c.need-need.ensures.value in
    let fits : FitsSigned w128 c.need-need.result = search rules in
    limit_small c.args.applications c.args.room.now.step c.least_times.result (need_of c.args.applications c.args.room.now.without_room c.raise_all.new.heights)
    (omega (arith, c.requires.room.within.waiter)) c.requires.room.some
    (need_of-small c.args.applications c.args.waits.now c.args.room.now (slice_index c.deref_mut.result.now) c.raise_all.new.heights
    c.requires.few c.requires.within c.raise_all.ensures.walks c.requires.room
    (ap (λ hs. slice_index hs c.args.room.now.without_room.waiter) c.deref_mut.ensures.value ∙ c.in_ok-heights.ensures.high))
    (λ k some below. less_is c.need-need.result _ _ fits n (c.least_times.ensures.least k some below))

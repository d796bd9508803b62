use mathlib.Core.Bool.{false≢true}
use Rattle.std.proofs.Common.{◌≡◌, take, refl, subst, get_or, sym}
use Rattle.std.proofs.lemmas.List.{take_all}
use Rattle.std.proofs.lemmas.List.Elements.{All-more}
use Rattle.std.specs.List.{Contains}
use Rattle.cycle_check.proofs.judging.are_among.Goals as goal

pub loop-wait-preserved : goal.loop-wait-preserved
loop-wait-preserved c =
    let here : Contains c.args.all.now (get_or c.args.waits.now c.loop-wait.wait-index c.wait-item.result) = subst (Contains c.args.all.now) c.wait-item.is (c.if-not-is_among.ensures.0 refl) in
    All-more (Contains c.args.all.now) c.args.waits.now c.loop-wait.wait-index c.wait-item.result c.loop-wait-test.true c.loop-wait.invariant here

pub returns : goal.returns
returns c =
    let all : take c.loop-wait.wait-index c.args.waits.now ≡ c.args.waits.now = take_all c.loop-wait.wait-index c.args.waits.now c.loop-wait-test.false in
    (λ _. rw all at c.loop-wait.invariant, λ _. refl)

pub returns-then-not-is_among : goal.returns-then-not-is_among
returns-then-not-is_among c = (
  λ no. absurd (false≢true no),
  λ all. c.if-not-is_among.ensures.1 (subst (Contains c.args.all.now) (sym c.wait-item.is) (all c.loop-wait.wait-index c.wait-item.result c.loop-wait-test.true)),
)

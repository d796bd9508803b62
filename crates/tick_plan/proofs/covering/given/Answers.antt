use Rattle.std.proofs.Common.{ℕ, Some, map, ap, sym, ◌∙◌}
use Rattle.std.proofs.lemmas.List.{map_more, take_all}
use Rattle.tick_plan.proofs.covering.given.Goals as goal

pub loop-limit-preserved : goal.loop-limit-preserved
loop-limit-preserved c =
    rw (c.in_ok-push.ensures.items, c.loop-limit.invariant) (sym (map_more (λ (m : ℕ). Some m) c.args.limits.now c.loop-limit.limit-index 0 c.loop-limit-test.true))

pub returns : goal.returns
returns c = c.loop-limit.invariant ∙ ap (map (λ (m : ℕ). Some m)) (take_all c.loop-limit.limit-index c.args.limits.now c.loop-limit-test.false)

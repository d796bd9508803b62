use Rattle.std.proofs.Common.{◌≡◌, ◌∙◌, sym, arith, get_or}
use Rattle.music_base.specs.declared.item.Item.TheVariants.{Value}
use Rattle.rule_turns.proofs.Ascending.{found_value-above, found_value-here, found_value-next, found_value-none, found_value-past}
use Rattle.rule_turns.proofs.values.find_from.Goals as goal
use Rattle.rule_turns.proofs.values.find_from.Goals.{in-Value+else-global-index+else-index-global, in_default}

pub returns-then-global-index-clause-value : goal.returns-then-global-index-clause-value
returns-then-global-index-clause-value c =
    let d = c.index-block-place.result in
    let here : get_or c.args.block.now c.loop-place.place d ≡ Value c.args.index c.in-Value.value = rw c.if-global-index.true at (sym c.index-block-place.is ∙ c.in-Value.is) in
    sym (c.loop-place.invariant c.args.index (omega arith) ∙ found_value-here c.args.index c.in-Value.value c.args.block.now c.loop-place.place d c.loop-place-test.true here)

pub returns-then-global-index-clause-next : goal.returns-then-global-index-clause-next
returns-then-global-index-clause-next c g above =
    let d = c.index-block-place.result in
    c.loop-place.invariant g (omega (arith, above))
    ∙ found_value-next c.in-Value.global g c.in-Value.value c.args.block.now c.loop-place.place d c.loop-place-test.true (sym c.index-block-place.is ∙ c.in-Value.is) (omega (arith, above, c.if-global-index.true))

pub returns-then-index-global-clause-value : goal.returns-then-index-global-clause-value
returns-then-index-global-clause-value c =
    let d = c.index-block-place.result in
    sym (c.loop-place.invariant c.args.index (omega arith)
    ∙ found_value-above c.args.index 0 c.args.block.now c.loop-place.place c.in-Value.global c.in-Value.value d c.loop-place-test.true c.requires (sym c.index-block-place.is ∙ c.in-Value.is) c.if-index-global.true)

pub loop-place-preserved : goal.loop-place-preserved
loop-place-preserved c g from =
    let block = c.args.block.now in
    let place = c.loop-place.place in
    let d = c.index-block-place.result in
    c.loop-place.invariant g from ∙ elim c.match-block-place.branch [
      | in-Value+else-global-index+else-index-global w ↦
          let differs = w.if-global-index.false in
          let below = w.if-index-global.false in
          found_value-next w.in-Value.global g w.in-Value.value block place d c.loop-place-test.true (sym c.index-block-place.is ∙ w.in-Value.is) (omega (arith, from, differs, below))
      | in_default w ↦ found_value-none g block place d c.loop-place-test.true (λ h v e. w.in_default.not-Value h v (c.index-block-place.is ∙ e))
    ]

pub returns-clause-value : goal.returns-clause-value
returns-clause-value c =
    sym (c.loop-place.invariant c.args.index (omega arith) ∙ found_value-past c.args.index c.args.block.now c.loop-place.place c.loop-place-test.false)

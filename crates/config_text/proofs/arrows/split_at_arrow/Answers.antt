use Rattle.std.proofs.Common.{sym, ◌≡◌, true, false, eqb, drop, ◌+◌}
use Rattle.std.specs.List.{starts_with}
use Rattle.std.proofs.lemmas.List.{take_rest}
use Rattle.config_text.specs.Bytes.{arrow, back_arrow}
use Rattle.config_text.proofs.FirstArrow.{arrow_here, back_arrow_here, arrow_goes}
use Rattle.config_text.proofs.arrows.split_at_arrow.Goals as goal

pub returns-then-begins_with_arrow : goal.returns-then-begins_with_arrow
returns-then-begins_with_arrow c =
    let here : starts_with eqb (drop c.loop-i.i c.args.bytes.now) arrow ≡ true = sym (rw (take_rest c.args.bytes.now c.loop-i.i) at c.if-begins_with_arrow.ensures) in
    rw (take_rest c.args.bytes.now (c.loop-i.i + 2)) (arrow_here c.args.bytes.now c.loop-i.i c.loop-i-test.true here c.loop-i.invariant)

pub returns-then-begins_with_back_arrow : goal.returns-then-begins_with_back_arrow
returns-then-begins_with_back_arrow c =
    let plain : starts_with eqb (drop c.loop-i.i c.args.bytes.now) arrow ≡ false = sym (rw (take_rest c.args.bytes.now c.loop-i.i) at c.if-begins_with_arrow.ensures) in
    let here : starts_with eqb (drop c.loop-i.i c.args.bytes.now) back_arrow ≡ true = sym (rw (take_rest c.args.bytes.now c.loop-i.i) at c.if-begins_with_back_arrow.ensures) in
    rw (take_rest c.args.bytes.now (c.loop-i.i + 2)) (back_arrow_here c.args.bytes.now c.loop-i.i c.loop-i-test.true plain here c.loop-i.invariant)

pub loop-i-preserved : goal.loop-i-preserved
loop-i-preserved c =
    let plain : starts_with eqb (drop c.loop-i.i c.args.bytes.now) arrow ≡ false = sym (rw (take_rest c.args.bytes.now c.loop-i.i) at c.if-begins_with_arrow.ensures) in
    let back : starts_with eqb (drop c.loop-i.i c.args.bytes.now) back_arrow ≡ false = sym (rw (take_rest c.args.bytes.now c.loop-i.i) at c.if-begins_with_back_arrow.ensures) in
    arrow_goes c.args.bytes.now c.loop-i.i c.loop-i-test.true plain back c.loop-i.invariant

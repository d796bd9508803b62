use Rattle.std.proofs.Common.{◌≡◌, ◌+◌, ◌<◌, Some, None, length, refl, sym, arith, ◌∙◌}
use Rattle.rule_turns.specs.OneRule.{copied, found_value}
use Rattle.rule_turns.proofs.Ascending.{ascending-next, ascending-value, ascending-written, copied-found, overlay-keep, overlay-write}
use Rattle.rule_turns.proofs.values.copy_values.Goals as goal
use Rattle.rule_turns.proofs.values.copy_values.Goals.{in-Value+in-Some, in-Value+in_default-value, in_default}

pub loop-i-init : goal.loop-i-init
loop-i-init c = record { least = 0; ascend = c.requires.ascend; past = λ g le. refl; made = refl }

pub loop-i-preserved : goal.loop-i-preserved
loop-i-preserved c =
    let items = c.loop-i.items in
    let i = c.loop-i.i in
    let d = c.index-items-i.result in
    let block = c.args.block.now in
    let scale = c.args.scale.now in
    let lt : i < length items = omega (arith, c.loop-i-test.true, c.loop-i.auto) in
    elim c.match-items-i.branch [
      | in-Value+in-Some w ↦
          let global = w.in-Value.global in
          let up = ascending-next c.loop-i.invariant.least items i global w.in-Value.value d lt w.in-Value.is c.loop-i.invariant.ascend in
          let found : found_value block global ≡ Some w.in-Some.value =
          c.loop-i.invariant.past global up.0 ∙ sym w.find_from-found.ensures.value ∙ w.in-Some.is in
          let given = copied-found scale.numerator scale.denominator scale.add block global (Some w.in-Some.value) found in
          rw (w.items-is, w.write_value.ensures, w.near-is) (record {
            least = global + 1;
            ascend = ascending-written items i global w.in-Value.value w.scaled.result lt up.1;
            past = λ g le. c.loop-i.invariant.past g (omega (arith, le, up.0)) ∙ w.find_from-found.ensures.next g (omega (arith, le));
            made = c.loop-i.invariant.made ∙ overlay-write (copied scale.numerator scale.denominator scale.add block) items i global w.in-Value.value w.scaled.result d lt w.in-Value.is (rw given (sym w.scaled.ensures));
          })
      | in-Value+in_default-value w ↦
          let global = w.in-Value.global in
          let up = ascending-next c.loop-i.invariant.least items i global w.in-Value.value d lt w.in-Value.is c.loop-i.invariant.ascend in
          let found : found_value block global ≡ None =
          c.loop-i.invariant.past global up.0 ∙ sym w.find_from-found.ensures.value ∙ w.in_default-value.is in
          rw (w.items-is, w.near-is) (record {
            least = global + 1;
            ascend = up.1;
            past = λ g le. c.loop-i.invariant.past g (omega (arith, le, up.0)) ∙ w.find_from-found.ensures.next g (omega (arith, le));
            made = c.loop-i.invariant.made ∙ overlay-keep (copied scale.numerator scale.denominator scale.add block) items i global w.in-Value.value d lt w.in-Value.is (copied-found scale.numerator scale.denominator scale.add block global None found);
          })
      | in_default w ↦ absurd (ascending-value c.loop-i.invariant.least items i d lt c.loop-i.invariant.ascend w.in_default.not-Value)
    ]

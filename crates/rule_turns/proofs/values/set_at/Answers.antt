use Rattle.std.proofs.Common.{◌∙◌, ◌≤◌, length, sym, arith}
use Rattle.std.proofs.lemmas.List.{set_past}
use Rattle.music_base.specs.declared.item.Item.TheVariants.{Value}
use Rattle.rule_turns.proofs.Ascending.{overlay-set}
use Rattle.rule_turns.proofs.values.set_at.Goals as goal

pub returns-then-place-items : goal.returns-then-place-items
returns-then-place-items c gs are is = c.write_value.ensures ∙ rw is (overlay-set c.args.index c.args.value 0 gs c.args.items.now c.requires.ascend are)

pub returns-else-place-items : goal.returns-else-place-items
returns-else-place-items c gs are is =
    let past : length c.args.items.now ≤ c.args.place = omega arith in
    sym (set_past c.args.items.now c.args.place (Value c.args.index c.args.value) past) ∙ rw is (overlay-set c.args.index c.args.value 0 gs c.args.items.now c.requires.ascend are)

use Rattle.std.proofs.Common.{◌≡◌, length, map, take, pos, ◌+ℤ◌, ◌-ℤ◌, ◌*ℤ◌}
use Rattle.music_base.specs.Numbers.{floor_div}
use Rattle.music_base.specs.declared.item.Item.TheVariants.{Value}
use Rattle.scene_model.specs.Tables.{value_in}
use Rattle.port_inbox.proofs.points.fill_between.Given as goal

abbrev pub invariant-loop-i : goal.invariant-loop-i
invariant-loop-i l = record {
  sized : length l.items ≡ length l.globals;
  filled : take l.i l.items ≡ map (λ g. Value g (value_in l.first g +ℤ floor_div ((value_in l.next g -ℤ value_in l.first g) *ℤ pos l.weight) l.tick)) (take l.i l.globals);
}

use Rattle.std.proofs.Common.{◌≡◌, length, map, take}
use Rattle.music_base.specs.declared.item.Item.TheVariants.{Value}
use Rattle.scene_model.specs.Tables.{value_in}
use Rattle.port_inbox.proofs.points.fill_held.Given as goal

abbrev pub invariant-loop-i : goal.invariant-loop-i
invariant-loop-i l = record {
  sized : length l.items ≡ length l.globals;
  filled : take l.i l.items ≡ map (λ g. Value g (value_in l.values g)) (take l.i l.globals);
}

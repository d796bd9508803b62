use Rattle.std.proofs.Common.{◌≡◌, length, map, take, pos}
use Rattle.music_base.specs.declared.item.Item.TheVariants.{Value}
use Rattle.port_inbox.proofs.value_lists.fill_zeros.Given as goal

abbrev pub invariant-loop-i : goal.invariant-loop-i
invariant-loop-i l = record {
  sized : length l.items ≡ length l.globals;
  filled : take l.i l.items ≡ map (λ g. Value g (pos 0)) (take l.i l.globals);
}

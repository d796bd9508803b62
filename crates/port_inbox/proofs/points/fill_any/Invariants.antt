use Rattle.std.proofs.Common.{◌≡◌, length, map, take}
use Rattle.music_base.specs.declared.item.Item.TheVariants.{Value}
use Rattle.port_inbox.specs.KeptSamples.{value_kept}
use Rattle.port_inbox.specs.Samples.{point_between}
use Rattle.port_inbox.proofs.points.fill_any.Given as goal

abbrev pub invariant-loop-i : goal.invariant-loop-i
invariant-loop-i l = record {
  sized : length l.items ≡ length l.globals;
  filled : take l.i l.items ≡ map (λ g. Value g (point_between (value_kept l.first g) (value_kept l.next g) l.tick l.weight)) (take l.i l.globals);
}

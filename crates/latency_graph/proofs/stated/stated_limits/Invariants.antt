use Rattle.std.proofs.Common.{◌≡◌, map, All}
use Rattle.music_base.specs.Numbers.{below}
use Rattle.scene_model.specs.Waits.{IsLawfulLimit, stated}
use Rattle.latency_graph.proofs.stated.stated_limits.Given as goal

abbrev pub invariant-loop-c : goal.invariant-loop-c
invariant-loop-c l = record {
  limits : l.limits.items ≡ map (stated l.scene) (below l.c);
  lawful : All IsLawfulLimit l.limits.items;
}

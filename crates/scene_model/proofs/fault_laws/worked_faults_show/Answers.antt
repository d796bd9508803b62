-- The field that the fault breaks computes.
use Rattle.std.proofs.Common.{◌≡◌, true, false, [], ◌∷◌, arith}
use Rattle.index_maps.specs.Intervals.{ranks_mapping, first_shared}
use Rattle.scene_model.specs.Links.{has_ends, input_of, output_of}
use Rattle.scene_model.specs.Rules.{has_port, is_mapped, is_rate, runs_for}
use Rattle.scene_model.proofs.fault_laws.worked_faults_show.Goals as goal

pub returns : goal.returns
unfolding ranks_mapping first_shared has_ends input_of output_of has_port is_mapped is_rate runs_for
returns c = record {
  late_stop = λ ok. omega (arith, ok.stop);
  no_tick = λ ok. omega (arith, ok.apps.each.0.tick.0);
  much_buffered = λ ok. omega (arith, ok.apps.each.1.0.ports.each.0.buffered.1);
  one_name = λ ok. let is : false ≡ true = ok.apps.differ in absurd cc;
  overlapping = λ ok. let is = ok.apps.each.0.ports.each.0.once in absurd cc;
  other_message_map = λ ok. let is : 1 ∷ [] ≡ 0 ∷ [] = ok.apps.each.0.ports.each.0.message 0 (omega arith) in absurd cc;
  unmapped = λ ok. let is : false ≡ true = ok.apps.each.0.rules.stand in absurd cc;
  no_period = λ ok. let is : false ≡ true = ok.apps.each.0.rules.stand in absurd cc;
  other_kind = λ ok. let is : false ≡ true = ok.links.of_one_kind in absurd cc;
  joined_twice = λ ok. let is : false ≡ true = ok.links.pairs_once in absurd cc;
}

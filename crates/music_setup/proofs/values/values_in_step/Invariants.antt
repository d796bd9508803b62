-- The values of the ports so far, or the most that a word holds.
use Rattle.std.proofs.Common.{◌≡◌, take}
use Rattle.std.specs.List.{sum_by}
use Rattle.std.specs.Io.Iter.{u64_saturate}
use Rattle.scene_model.specs.declared.port.PortDecl.{PortDecl}
use Rattle.scene_model.specs.Values.{values_by}
use Rattle.music_setup.proofs.values.values_in_step.Given as goal

abbrev pub invariant-loop-port : goal.invariant-loop-port
invariant-loop-port l = l.total ≡ u64_saturate (sum_by (λ (port : PortDecl). values_by port.kind port.map) (take l.port-index l.ports))

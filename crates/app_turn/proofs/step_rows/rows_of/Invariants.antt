use Rattle.std.proofs.Common.{◌≡◌, []}
use Rattle.std.specs.Prelude.{slice_index_or}
use Rattle.std.specs.List.{flat_map}
use Rattle.music_base.specs.Numbers.{below}
use Rattle.scene_model.specs.Scenes.{port_at}
use Rattle.app_turn.specs.Rows.{port_rows_of}
use Rattle.app_turn.proofs.step_rows.rows_of.Given as goal

abbrev pub invariant-loop-port : goal.invariant-loop-port
invariant-loop-port l = l.rows ≡ flat_map (λ p. port_rows_of (port_at l.scene l.app p) l.clock l.app p (slice_index_or l.inputs p [])) (below l.port)

use Rattle.std.proofs.Common.{List}
use Rattle.std.specs.Prelude.{ℕ, Option}
use Rattle.music_base.specs.Outside.{Took}
use Rattle.std.specs.List.{flat_map}
use Rattle.scene_model.specs.Logs.{line_of}
use Rattle.scene_model.specs.declared.row.Row.{Row}
use Rattle.step_core.proofs.Running.{handed_writable, on_ok, took_begins, took_more, took_part}
use Rattle.step_core.proofs.to_sink.write_released.Goals as goal

pub returns-in_default-clause-prefix : goal.returns-in_default-clause-prefix
returns-in_default-clause-prefix g c = λ before took. took_begins c.args.scene.now c.args.core.now c.requires.same c.requires.begins before (g.K.Sink.taken c.args.sink.now) took

pub write-requires-clause-writable : goal.write-requires-clause-writable
write-requires-clause-writable g c = rw c.as_slice.ensures (handed_writable c.args.scene.now c.args.core.now c.release.new.self c.requires.same c.in-Ok.rows c.requires.faultless c.in-Ok.ensures)

pub returns-clause-all : goal.returns-clause-all
returns-clause-all g c =
    let F : List Row → Type 0 = λ rows. Took (g.K.Sink.taken c.args.sink.now) (flat_map (line_of c.args.scene.now) rows) (g.K.Sink.taken c.write.new.sink) in
    on_ok c.write.result
    (λ (took : F c.as_slice.result.now) (before : Option (List ℕ)) first. took_more c.args.scene.now c.args.core.now c.release.new.self c.requires.same c.in-Ok.rows c.in-Ok.ensures before (g.K.Sink.taken c.args.sink.now) (g.K.Sink.taken c.write.new.sink) first (rw c.as_slice.ensures at took))
    c.write.ensures.all

pub returns-clause-prefix : goal.returns-clause-prefix
returns-clause-prefix g c =
    λ before first. took_part c.args.scene.now c.args.core.now c.release.new.self c.requires.same c.in-Ok.rows c.in-Ok.ensures before (g.K.Sink.taken c.args.sink.now) (g.K.Sink.taken c.write.new.sink) first (rw c.as_slice.ensures at c.write.ensures.prefix)

use Rattle.std.specs.Prelude.{List, Option, ℕ}
use Rattle.music_base.specs.Outside.{Took}
use Rattle.step_core.specs.Running.{text_out}
use Rattle.step_core.proofs.Running.{header_prefix, header_taken, opened_runs}
use Rattle.step_core.proofs.to_sink.run_to_sink.Goals as goal

pub returns-in_err-log-clause-prefix : goal.returns-in_err-log-clause-prefix
returns-in_err-log-clause-prefix g c = header_prefix c.args.scene.now (g.K.Sink.taken c.args.sink.now) (g.K.Sink.taken c.start-2.new.sink) c.in_err-log.ensures.prefix

pub drive-requires-clause-running : goal.drive-requires-clause-running
drive-requires-clause-running g c = opened_runs c.args.scene.now c.args.plan.now.limits.items c.in-Ok.core c.in-Ok.ensures c.requires.fits.fits.limits_counted

pub returns-in_err-drive-clause-prefix : goal.returns-in_err-drive-clause-prefix
returns-in_err-drive-clause-prefix g c =
    let before : Option (List ℕ) = g.K.Sink.taken c.args.sink.now in
    let first : Took before (text_out c.in-Ok.core) (g.K.Sink.taken c.start-2.new.sink) = header_taken c.args.scene.now c.args.plan.now.limits.items c.in-Ok.core c.in-Ok.ensures before (g.K.Sink.taken c.start-2.new.sink) c.in_ok-log.ensures.all in
    c.drive.ensures.prefix before first

pub returns-clause-all : goal.returns-clause-all
returns-clause-all g c =
    let before : Option (List ℕ) = g.K.Sink.taken c.args.sink.now in
    let first : Took before (text_out c.in-Ok.core) (g.K.Sink.taken c.start-2.new.sink) = header_taken c.args.scene.now c.args.plan.now.limits.items c.in-Ok.core c.in-Ok.ensures before (g.K.Sink.taken c.start-2.new.sink) c.in_ok-log.ensures.all in
    c.in_ok-drive.ensures.all before first

pub returns-clause-prefix : goal.returns-clause-prefix
returns-clause-prefix g c =
    let before : Option (List ℕ) = g.K.Sink.taken c.args.sink.now in
    let first : Took before (text_out c.in-Ok.core) (g.K.Sink.taken c.start-2.new.sink) = header_taken c.args.scene.now c.args.plan.now.limits.items c.in-Ok.core c.in-Ok.ensures before (g.K.Sink.taken c.start-2.new.sink) c.in_ok-log.ensures.all in
    c.drive.ensures.prefix before first

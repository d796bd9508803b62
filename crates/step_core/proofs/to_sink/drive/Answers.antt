use Rattle.std.proofs.Common.{◌≡◌, ◌∙◌, false, List}
use Rattle.std.specs.Prelude.{ℕ, Option}
use Rattle.music_base.specs.Outside.{Took}
use Rattle.scene_model.specs.declared.row.Row.{Row}
use Rattle.step_core.specs.Cores.{Released}
use Rattle.step_core.specs.Running.{DidSome, IsRunning, TookTurn, text_out}
use Rattle.step_core.proofs.Running.{still_finished, still_runs, still_took, turn_less, turn_runs, turn_took, on_both, on_ok, release_done, release_less, release_runs, took_all, took_begins}
use Rattle.step_core.proofs.to_sink.drive.Goals as goal

pub returns-in_err-take_turn-clause-prefix : goal.returns-in_err-take_turn-clause-prefix
returns-in_err-take_turn-clause-prefix g c =
    let run = c.loop-core.invariant.running in
    λ before first. took_begins c.args.scene.now c.loop-core.core run.is_after.is_scene run.begins before (g.K.Sink.taken c.loop-core.sink) (c.loop-core.invariant.took before first)

pub write_released-requires-clause-begins : goal.write_released-requires-clause-begins
write_released-requires-clause-begins g c =
    let some : DidSome c.loop-core.core c.take_turn.new.core = rw c.if-branch.true at c.in_ok-take_turn.ensures.turn in
    let run : IsRunning c.args.scene.now c.args.core.now.limits c.take_turn.new.core = turn_runs c.args.scene.now c.args.core.now.limits c.loop-core.core c.take_turn.new.core c.loop-core.invariant.running some in
    run.begins

pub loop-core-smaller-in-Continue-branch-2 : goal.loop-core-smaller-in-Continue-branch-2
loop-core-smaller-in-Continue-branch-2 g c =
    let some : DidSome c.loop-core.core c.take_turn.new.core = rw c.if-branch.true at c.in_ok-take_turn.ensures.turn in
    let released : (handed : List Row) × Released c.take_turn.new.core handed c.write_released.new.core = c.in_ok-write_released.ensures.released in
    release_less c.args.scene.now c.args.core.now.limits c.loop-core.core c.take_turn.new.core c.loop-core.invariant.running some c.write_released.new.core released.0 released.1

pub loop-core-preserved-in-Continue-branch-2 : goal.loop-core-preserved-in-Continue-branch-2
loop-core-preserved-in-Continue-branch-2 g c =
    let some : DidSome c.loop-core.core c.take_turn.new.core = rw c.if-branch.true at c.in_ok-take_turn.ensures.turn in
    let run : IsRunning c.args.scene.now c.args.core.now.limits c.take_turn.new.core = turn_runs c.args.scene.now c.args.core.now.limits c.loop-core.core c.take_turn.new.core c.loop-core.invariant.running some in
    let released : (handed : List Row) × Released c.take_turn.new.core handed c.write_released.new.core = c.in_ok-write_released.ensures.released in
    record {
      running = release_runs c.args.scene.now c.args.core.now.limits c.take_turn.new.core c.write_released.new.core run released.0 released.1;
      took = λ before first. c.in_ok-write_released.ensures.all before
          (turn_took c.args.scene.now c.args.core.now.limits c.loop-core.core c.take_turn.new.core c.loop-core.invariant.running some before (g.K.Sink.taken c.loop-core.sink) (c.loop-core.invariant.took before first));
      log = c.in_ok-write_released.ensures.log ∙ c.loop-core.invariant.log;
      stays = c.in_ok-write_released.ensures.stays ∙ c.loop-core.invariant.stays;
    }

pub returns-in_err-write_released-clause-prefix : goal.returns-in_err-write_released-clause-prefix
returns-in_err-write_released-clause-prefix g c =
    let some : DidSome c.loop-core.core c.take_turn.new.core = rw c.if-branch.true at c.in_ok-take_turn.ensures.turn in
    λ before first. c.write_released.ensures.prefix before
    (turn_took c.args.scene.now c.args.core.now.limits c.loop-core.core c.take_turn.new.core c.loop-core.invariant.running some before (g.K.Sink.taken c.loop-core.sink) (c.loop-core.invariant.took before first))

pub loop-core-smaller : goal.loop-core-smaller
loop-core-smaller g c =
    let some : DidSome c.loop-core.core c.take_turn.new.core = rw c.if-branch.true at c.in_ok-take_turn.ensures.turn in
    turn_less c.args.scene.now c.args.core.now.limits c.loop-core.core c.take_turn.new.core c.loop-core.invariant.running some

pub loop-core-preserved : goal.loop-core-preserved
loop-core-preserved g c =
    let some : DidSome c.loop-core.core c.take_turn.new.core = rw c.if-branch.true at c.in_ok-take_turn.ensures.turn in
    record {
      running = turn_runs c.args.scene.now c.args.core.now.limits c.loop-core.core c.take_turn.new.core c.loop-core.invariant.running some;
      took = λ before first. turn_took c.args.scene.now c.args.core.now.limits c.loop-core.core c.take_turn.new.core c.loop-core.invariant.running some before (g.K.Sink.taken c.loop-core.sink) (c.loop-core.invariant.took before first);
      log = c.loop-core.invariant.log;
      stays = c.loop-core.invariant.stays;
    }

-- where nothing was done
pub write_released-requires-2-clause-begins : goal.write_released-requires-2-clause-begins
write_released-requires-2-clause-begins g c =
    let still : TookTurn c.loop-core.core false c.take_turn.new.core = rw c.if-branch.false at c.in_ok-take_turn.ensures.turn in
    (still_runs c.args.scene.now c.args.core.now.limits c.loop-core.core c.take_turn.new.core c.loop-core.invariant.running still.0).begins

pub returns-clause-run : goal.returns-clause-run
returns-clause-run g c =
    let still : TookTurn c.loop-core.core false c.take_turn.new.core = rw c.if-branch.false at c.in_ok-take_turn.ensures.turn in
    on_ok c.write_released-2.result
    (λ (released : (handed : List Row) × Released c.take_turn.new.core handed c.write_released-2.new.core).
    release_done c.args.scene.now c.args.core.now.limits c.take_turn.new.core c.write_released-2.new.core
    (still_runs c.args.scene.now c.args.core.now.limits c.loop-core.core c.take_turn.new.core c.loop-core.invariant.running still.0) released.0 released.1
    (still_finished c.args.scene.now c.args.core.now.limits c.loop-core.core c.take_turn.new.core c.loop-core.invariant.running still.0 still.1))
    c.write_released-2.ensures.released

pub returns-clause-all : goal.returns-clause-all
returns-clause-all g c =
    let still : TookTurn c.loop-core.core false c.take_turn.new.core = rw c.if-branch.false at c.in_ok-take_turn.ensures.turn in
    let run = still_runs c.args.scene.now c.args.core.now.limits c.loop-core.core c.take_turn.new.core c.loop-core.invariant.running still.0 in
    λ before first.
    on_both c.write_released-2.result
    (λ (released : (handed : List Row) × Released c.take_turn.new.core handed c.write_released-2.new.core)
    (all : (b : Option (List ℕ)) → Took b (text_out c.take_turn.new.core) (g.K.Sink.taken c.loop-core.sink) → Took b (text_out c.write_released-2.new.core) (g.K.Sink.taken c.write_released-2.new.sink)).
    took_all c.args.scene.now c.take_turn.new.core c.write_released-2.new.core run.is_after.is_scene released.0 released.1 before (g.K.Sink.taken c.write_released-2.new.sink)
    (still_finished c.args.scene.now c.args.core.now.limits c.loop-core.core c.take_turn.new.core c.loop-core.invariant.running still.0 still.1)
    (all before (still_took c.args.scene.now c.args.core.now.limits c.loop-core.core c.take_turn.new.core c.loop-core.invariant.running still.0 before (g.K.Sink.taken c.loop-core.sink) (c.loop-core.invariant.took before first))))
    c.write_released-2.ensures.released c.write_released-2.ensures.all

pub returns-clause-prefix : goal.returns-clause-prefix
returns-clause-prefix g c =
    let still : TookTurn c.loop-core.core false c.take_turn.new.core = rw c.if-branch.false at c.in_ok-take_turn.ensures.turn in
    λ before first. c.write_released-2.ensures.prefix before
    (still_took c.args.scene.now c.args.core.now.limits c.loop-core.core c.take_turn.new.core c.loop-core.invariant.running still.0 before (g.K.Sink.taken c.loop-core.sink) (c.loop-core.invariant.took before first))

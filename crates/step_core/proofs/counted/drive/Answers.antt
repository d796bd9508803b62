use Rattle.std.proofs.Common.{◌≡◌, ◌∙◌, false, List}
use Rattle.scene_model.specs.declared.row.Row.{Row}
use Rattle.step_core.specs.Cores.{Released}
use Rattle.step_core.specs.Running.{DidSome, IsRunning, TookTurn}
use Rattle.step_core.proofs.Running.{still_finished, still_runs, turn_less, turn_runs, release_less, release_runs}
use Rattle.step_core.proofs.Sizes.{still_size, turn_size, log_bytes, log_rows, on_if}
use Rattle.step_core.proofs.counted.drive.Goals as goal

pub count_released-requires-clause-begins : goal.count_released-requires-clause-begins
count_released-requires-clause-begins c =
    let some : DidSome c.loop-core.core c.take_turn.new.core = rw c.if-branch.true at c.in_ok-take_turn.ensures in
    let run : IsRunning c.args.scene.now c.args.core.now.limits c.take_turn.new.core = turn_runs c.args.scene.now c.args.core.now.limits c.loop-core.core c.take_turn.new.core c.loop-core.invariant.running some in
    run.begins

pub count_released-requires-clause-counted : goal.count_released-requires-clause-counted
count_released-requires-clause-counted c =
    let some : DidSome c.loop-core.core c.take_turn.new.core = rw c.if-branch.true at c.in_ok-take_turn.ensures in
    turn_size c.args.scene.now c.args.core.now.limits c.loop-core.core c.take_turn.new.core c.loop-core.invariant.running some c.loop-core.size c.loop-core.invariant.counted

pub loop-core-smaller-then-is_due : goal.loop-core-smaller-then-is_due
loop-core-smaller-then-is_due c =
    let some : DidSome c.loop-core.core c.take_turn.new.core = rw c.if-branch.true at c.in_ok-take_turn.ensures in
    let released : (handed : List Row) × Released c.take_turn.new.core handed c.count_released.new.core = c.in_ok-size.ensures.released in
    release_less c.args.scene.now c.args.core.now.limits c.loop-core.core c.take_turn.new.core c.loop-core.invariant.running some c.count_released.new.core released.0 released.1

pub loop-core-preserved-then-is_due : goal.loop-core-preserved-then-is_due
loop-core-preserved-then-is_due c =
    let some : DidSome c.loop-core.core c.take_turn.new.core = rw c.if-branch.true at c.in_ok-take_turn.ensures in
    let run : IsRunning c.args.scene.now c.args.core.now.limits c.take_turn.new.core = turn_runs c.args.scene.now c.args.core.now.limits c.loop-core.core c.take_turn.new.core c.loop-core.invariant.running some in
    let released : (handed : List Row) × Released c.take_turn.new.core handed c.count_released.new.core = c.in_ok-size.ensures.released in
    record {
      running = release_runs c.args.scene.now c.args.core.now.limits c.take_turn.new.core c.count_released.new.core run released.0 released.1;
      counted = c.in_ok-size.ensures.counted;
      log = c.in_ok-size.ensures.log ∙ c.loop-core.invariant.log;
    }

pub loop-core-smaller : goal.loop-core-smaller
loop-core-smaller c =
    let some : DidSome c.loop-core.core c.take_turn.new.core = rw c.if-branch.true at c.in_ok-take_turn.ensures in
    turn_less c.args.scene.now c.args.core.now.limits c.loop-core.core c.take_turn.new.core c.loop-core.invariant.running some

pub loop-core-preserved : goal.loop-core-preserved
loop-core-preserved c =
    let some : DidSome c.loop-core.core c.take_turn.new.core = rw c.if-branch.true at c.in_ok-take_turn.ensures in
    record {
      running = turn_runs c.args.scene.now c.args.core.now.limits c.loop-core.core c.take_turn.new.core c.loop-core.invariant.running some;
      counted = turn_size c.args.scene.now c.args.core.now.limits c.loop-core.core c.take_turn.new.core c.loop-core.invariant.running some c.loop-core.size c.loop-core.invariant.counted;
      log = c.loop-core.invariant.log;
    }

-- where nothing was done
pub count_released-requires-2-clause-begins : goal.count_released-requires-2-clause-begins
count_released-requires-2-clause-begins c =
    let still : TookTurn c.loop-core.core false c.take_turn.new.core = rw c.if-branch.false at c.in_ok-take_turn.ensures in
    (still_runs c.args.scene.now c.args.core.now.limits c.loop-core.core c.take_turn.new.core c.loop-core.invariant.running still.0).begins

pub count_released-requires-2-clause-counted : goal.count_released-requires-2-clause-counted
count_released-requires-2-clause-counted c =
    let still : TookTurn c.loop-core.core false c.take_turn.new.core = rw c.if-branch.false at c.in_ok-take_turn.ensures in
    still_size c.loop-core.core c.take_turn.new.core c.loop-core.size still.0 c.loop-core.invariant.counted

pub returns-clause-rows : goal.returns-clause-rows
returns-clause-rows c =
    let still : TookTurn c.loop-core.core false c.take_turn.new.core = rw c.if-branch.false at c.in_ok-take_turn.ensures in
    let run = still_runs c.args.scene.now c.args.core.now.limits c.loop-core.core c.take_turn.new.core c.loop-core.invariant.running still.0 in
    on_if c.count_released-2.result
    (λ size (released : (handed : List Row) × Released c.take_turn.new.core handed c.count_released-2.new.core) counted.
    log_rows c.args.scene.now c.take_turn.new.core c.count_released-2.new.core run.is_after.is_scene released.0 released.1 size
    (still_finished c.args.scene.now c.args.core.now.limits c.loop-core.core c.take_turn.new.core c.loop-core.invariant.running still.0 still.1) counted)
    c.count_released-2.ensures.released c.count_released-2.ensures.counted

pub returns-clause-bytes : goal.returns-clause-bytes
returns-clause-bytes c =
    let still : TookTurn c.loop-core.core false c.take_turn.new.core = rw c.if-branch.false at c.in_ok-take_turn.ensures in
    let run = still_runs c.args.scene.now c.args.core.now.limits c.loop-core.core c.take_turn.new.core c.loop-core.invariant.running still.0 in
    on_if c.count_released-2.result
    (λ size (released : (handed : List Row) × Released c.take_turn.new.core handed c.count_released-2.new.core) counted.
    log_bytes c.args.scene.now c.take_turn.new.core c.count_released-2.new.core run.is_after.is_scene released.0 released.1 size
    (still_finished c.args.scene.now c.args.core.now.limits c.loop-core.core c.take_turn.new.core c.loop-core.invariant.running still.0 still.1) counted)
    c.count_released-2.ensures.released c.count_released-2.ensures.counted

use Rattle.step_core.proofs.Running.{handed_writable}
use Rattle.step_core.proofs.Sizes.{if_both, release_size}
use Rattle.step_core.proofs.counted.count_released.Goals as goal

pub count-requires-clause-writable : goal.count-requires-clause-writable
count-requires-clause-writable c =
    rw c.as_slice.ensures (handed_writable c.args.scene.now c.args.core.now c.release.new.self c.requires.same c.in_ok-rows.rows c.requires.faultless c.in_ok-rows.ensures)

pub returns-clause-counted : goal.returns-clause-counted
returns-clause-counted c =
    if_both c.count.result
    (λ more count bytes. release_size c.args.scene.now c.args.core.now c.release.new.self c.requires.same c.in_ok-rows.rows c.in_ok-rows.ensures c.args.size more c.requires.counted (rw c.as_slice.ensures at count) (rw c.as_slice.ensures at bytes))
    c.count.ensures.rows c.count.ensures.bytes

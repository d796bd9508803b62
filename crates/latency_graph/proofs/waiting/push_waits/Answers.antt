use Rattle.std.proofs.Common.{[], ◌∷◌, append_assoc}
use Rattle.scene_model.specs.Waits.{block_wait, room_wait}
use Rattle.latency_graph.proofs.waiting.push_waits.Goals as goal

pub returns-in_ok-push-2 : goal.returns-in_ok-push-2
returns-in_ok-push-2 c =
    rw (c.in_ok-push-2.ensures.items, c.in_ok-push.ensures.items, c.block_wait.ensures, c.room_wait.ensures, c.in-Some.is)
    (append_assoc c.args.waits.now.items (block_wait c.args.scene.now c.args.link ∷ []) (room_wait c.args.scene.now c.args.link c.in-Some.limit ∷ []))

pub returns-in_default : goal.returns-in_default
returns-in_default c = rw (c.in_ok-push.ensures.items, c.block_wait.ensures, c.in_default.is)

use Rattle.std.proofs.Common.{◌∙◌, ◌++◌, ◌∷◌, [], ap, None, List, Option}
use Rattle.std.proofs.lemmas.List.{replicate-append-replicate}
use Rattle.music_base.specs.declared.item.Block.{Block}
use Rattle.app_turn.proofs.opening.no_blocks.Goals as goal

pub loop-preserved : goal.loop-preserved
loop-preserved c = c.in_ok-push.ensures.items ∙ ap (λ (l : List (Option Block)). l ++ None ∷ []) c.loop.invariant ∙ replicate-append-replicate c.loop.counter 1 None

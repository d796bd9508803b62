-- Where an end cannot refuse, the machine acted.
use Rattle.std.specs.Prelude.{ℕ}
use Rattle.music_base.specs.declared.item.Block.{Block}
use Rattle.port_buffers.specs.declared.ends.PutEnd as PutEnd
use Rattle.port_buffers.specs.declared.ends.TakeEnd as TakeEnd
use Rattle.app_turn.specs.Machines.{IsPending, Machine}
use Rattle.app_turn.specs.Moves.{DidPut, DidTake, Gave, Took}
use Rattle.app_turn.specs.declared.turned.Turned.{Turned}
use Rattle.app_turn.specs.declared.turned.Turned.TheVariants.{Acted, NotYet}

module _ {E : Type 0} where
  pub took_if : (g : TakeEnd.Ghosts E) (from to : E) (m after : Machine) (c : ℕ) (t : Turned) → DidTake g from m c t to after → (g.found_empty from to → ⊥) → (block : Block) × g.was_taken from block to × Took m c block after
  took_if g from to m after c Acted did there = did
  took_if g from to m after c NotYet did there = absurd (there did.0)

  pub gave_if : (g : PutEnd.Ghosts E) (from to : E) (m after : Machine) (c : ℕ) (t : Turned) → DidPut g from m c t to after → (g.found_full from to → ⊥) → (block : Block) × IsPending m c block × g.was_put from block to × Gave m c after
  gave_if g from to m after c Acted did room = did
  gave_if g from to m after c NotYet did room = absurd (room did.0)

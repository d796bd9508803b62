-- Where no act of any connection or application is allowed, no act is.
use Rattle.std.proofs.Common.{ℕ, ◌<◌, length}
use Rattle.scene_model.specs.Orders.{CanPut, CanRun, CanTake}
use Rattle.scene_model.specs.declared.act.Act.{Act}
use Rattle.scene_model.specs.declared.act.Act.TheVariants.{Put, Run, Take}
use Rattle.scene_model.specs.declared.scene.Scene.{Scene}
use Rattle.act_orders.specs.declared.ledger.Ledger.{Ledger}
use Rattle.act_orders.specs.Ledgers.{Allows, counts_in}

pub none_allowed : (scene : Scene) (x : Ledger) → ((c : ℕ) → c < length scene.links → (CanTake scene (counts_in x) c → ⊥) × (CanPut scene x.limits.items (counts_in x) c → ⊥))
    → ((a : ℕ) → a < length scene.apps → CanRun scene (counts_in x) a → ⊥) → (act : Act) → Allows scene x act → ⊥
none_allowed scene x links apps (Take c) can = (links c can.link).0 can
none_allowed scene x links apps (Run a) can = apps a can.app can
none_allowed scene x links apps (Put c) can = (links c can.link).1 can

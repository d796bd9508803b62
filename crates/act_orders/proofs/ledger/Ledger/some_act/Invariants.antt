use Rattle.std.proofs.Common.{◌<◌, ℕ}
use Rattle.scene_model.specs.Orders.{CanPut, CanRun, CanTake}
use Rattle.act_orders.specs.Ledgers.{counts_in}
use Rattle.act_orders.proofs.ledger.Ledger.some_act.Given as goal

abbrev pub invariant-loop-link : goal.invariant-loop-link
invariant-loop-link l = (c : ℕ) → c < l.link → (CanTake l.scene (counts_in l.self) c → ⊥) × (CanPut l.scene l.self.limits.items (counts_in l.self) c → ⊥)

abbrev pub invariant-loop-app : goal.invariant-loop-app
invariant-loop-app l = (a : ℕ) → a < l.app → CanRun l.scene (counts_in l.self) a → ⊥

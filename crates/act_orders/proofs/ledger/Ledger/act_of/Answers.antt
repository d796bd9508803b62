use Rattle.std.proofs.Common.{arith}
use Rattle.act_orders.proofs.Ledgers.{into_count, out_count}
use Rattle.act_orders.proofs.ledger.Ledger.act_of.Goals as goal

pub index-requires : goal.index-requires
index-requires c = omega (arith, c.if-place-len.false, c.len.ensures, c.requires.sound.runs, out_count _ _ c.requires)

pub index-requires-2 : goal.index-requires-2
index-requires-2 c = omega (arith, c.if-place-len.false, c.len.ensures, c.requires.sound.runs, into_count _ _ c.requires)

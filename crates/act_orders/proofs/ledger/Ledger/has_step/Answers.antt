use Rattle.std.proofs.Common.{◌≡◌, arith}
use Rattle.act_orders.proofs.Ledgers.{last_count, step-iff}
use Rattle.act_orders.proofs.Lists.{read_at}
use Rattle.act_orders.proofs.ledger.Ledger.has_step.Goals as goal

pub index-last-requires : goal.index-last-requires
index-last-requires c = let e : c.app.inside.0 ≡ c.args.app = c.app.view_is in omega (arith, c.requires.app, last_count _ _ c.requires.kept, e)

pub returns : goal.returns
returns c =
    let e : c.app.inside.0 ≡ c.args.app = c.app.view_is in
    step-iff _ _ c.requires.kept c.args.app c.requires.app _ _
    (read_at c.args.self.now.run.items _ _ _ e (omega (arith, c.requires.app, c.requires.kept.sound.runs)) c.index-ran.ensures)
    (read_at c.args.self.now.lasts.items _ _ _ e (omega (arith, c.requires.app, last_count _ _ c.requires.kept)) c.index-last.ensures)

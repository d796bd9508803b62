use Rattle.std.proofs.Common.{◌≡◌, ◌≤◌, arith}
use Rattle.act_orders.proofs.Ledgers.{few_put}
use Rattle.act_orders.proofs.Lists.{read_at}
use Rattle.act_orders.proofs.ledger.Ledger.put.Goals as goal

pub overflow_add-index_mut : goal.overflow_add-index_mut
overflow_add-index_mut c =
    let e : c.link.inside.0 ≡ c.args.link = c.link.view_is in
    let now = read_at c.args.self.now.put.items _ _ _ e (omega (arith, c.requires.allowed.link, c.requires.kept.sound.puts)) c.index_mut.ensures.value in
    let few : c.index_mut.result.now ≤ 1_000_000 = omega (arith, now, few_put _ _ c.requires.kept c.args.link c.requires.allowed.link) in
    omega (arith, few)

use Rattle.std.proofs.Common.{◌≡◌, ◌<◌, arith, length}
use Rattle.act_orders.proofs.Ledgers.{from_app, most_count, puts-iff}
use Rattle.act_orders.proofs.Lists.{read_at}
use Rattle.act_orders.proofs.ledger.Ledger.can_put.Goals as goal

pub index-most-requires : goal.index-most-requires
index-most-requires c = omega (arith, c.if-index-len.false, c.len.ensures, c.requires.sound.puts, most_count _ _ c.requires)

pub index-ran-requires : goal.index-ran-requires
index-ran-requires c =
    let e : c.link.inside.0 ≡ c.args.link = c.link.view_is in
    let link : c.args.link < length c.args.scene.now.links = omega (arith, c.if-index-len.false, c.len.ensures, c.requires.sound.puts, e) in
    omega (arith, c.sender_of-sender.ensures, from_app _ _ c.requires c.args.link link, c.requires.sound.runs)

pub returns : goal.returns
returns c =
    let e : c.link.inside.0 ≡ c.args.link = c.link.view_is in
    let link : c.args.link < length c.args.scene.now.links = omega (arith, c.if-index-len.false, c.len.ensures, c.requires.sound.puts, e) in
    let app = from_app _ _ c.requires c.args.link link in
    puts-iff _ _ c.requires c.args.link link _ _ _ _ _
    (read_at c.args.self.now.put.items _ _ _ e (omega (arith, link, c.requires.sound.puts)) c.index-put.ensures)
    (read_at c.args.self.now.taken.items _ _ _ e (omega (arith, link, c.requires.sound.takes)) c.index-taken.ensures)
    (read_at c.args.self.now.most.items _ _ _ e (omega (arith, link, most_count _ _ c.requires)) c.index-most.ensures)
    (read_at c.args.self.now.limits.items _ _ _ e (omega (arith, link, c.requires.limit_count)) c.index-limit.ensures)
    (read_at c.args.self.now.run.items _ _ _ c.sender_of-sender.ensures (omega (arith, app, c.requires.sound.runs)) c.index-ran.ensures)
    c.is_puttable.result c.is_puttable.ensures

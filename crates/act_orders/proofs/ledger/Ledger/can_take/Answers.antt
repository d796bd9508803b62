use Rattle.std.proofs.Common.{◌≡◌, ◌<◌, arith, length}
use Rattle.scene_model.specs.Scenes.{receiver}
use Rattle.act_orders.proofs.Ledgers.{last_count, takes-iff, to_app}
use Rattle.act_orders.proofs.Lists.{read_at}
use Rattle.act_orders.proofs.ledger.Ledger.can_take.Goals as goal

pub index-ran-requires : goal.index-ran-requires
index-ran-requires c =
    let e : c.link.inside.0 ≡ c.args.link = c.link.view_is in
    let link : c.args.link < length c.args.scene.now.links = omega (arith, c.if-index-len.false, c.len.ensures, c.requires.sound.takes, e) in
    omega (arith, c.receiver_of-receiver.ensures, to_app _ _ c.requires c.args.link link, c.requires.sound.runs)

pub index-last-requires : goal.index-last-requires
index-last-requires c =
    let e : c.link.inside.0 ≡ c.args.link = c.link.view_is in
    let link : c.args.link < length c.args.scene.now.links = omega (arith, c.if-index-len.false, c.len.ensures, c.requires.sound.takes, e) in
    omega (arith, c.receiver_of-receiver.ensures, to_app _ _ c.requires c.args.link link, last_count _ _ c.requires)

pub returns : goal.returns
returns c =
    let e : c.link.inside.0 ≡ c.args.link = c.link.view_is in
    let link : c.args.link < length c.args.scene.now.links = omega (arith, c.if-index-len.false, c.len.ensures, c.requires.sound.takes, e) in
    let app = to_app _ _ c.requires c.args.link link in
    takes-iff _ _ c.requires c.args.link link _ _ _ _ _
    (read_at c.args.self.now.taken.items _ _ _ e (omega (arith, link, c.requires.sound.takes)) c.index-taken.ensures)
    (read_at c.args.self.now.put.items _ _ _ e (omega (arith, link, c.requires.sound.puts)) c.index-put.ensures)
    (read_at c.args.self.now.needs.items _ _ _ e (omega (arith, link, c.requires.need_count)) c.index-need.ensures)
    (read_at c.args.self.now.run.items _ _ _ c.receiver_of-receiver.ensures (omega (arith, app, c.requires.sound.runs)) c.index-ran.ensures)
    (read_at c.args.self.now.lasts.items _ _ _ c.receiver_of-receiver.ensures (omega (arith, app, last_count _ _ c.requires)) c.index-last.ensures)
    c.is_takeable.result c.is_takeable.ensures

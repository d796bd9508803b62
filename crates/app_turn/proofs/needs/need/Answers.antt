use Rattle.std.proofs.Common.{◌∙◌, ◌<◌, length, get_or, ap, arith}
use Rattle.std.proofs.Math.ListN.{length-set}
use Rattle.music_base.proofs.Lists.{All-at}
use Rattle.app_turn.specs.declared.needs.Pace.{Pace}
use Rattle.app_turn.proofs.Paces.{needed_more}
use Rattle.app_turn.proofs.needs.need.Goals as goal

pub loop-pace-preserved : goal.loop-pace-preserved
loop-pace-preserved c =
    let pace = c.pace-item.result in
    let needs = c.loop-pace.needs.items in
    let paces = c.args.paces.now in
    let place = c.loop-pace.pace-index in
    let small : (get_or paces place pace).link < length c.args.needs.now.items = All-at (λ (p : Pace). p.link < length c.args.needs.now.items) paces place pace c.requires.links c.loop-pace-test.true in
    let room : c.link.inside.0 < length needs = omega (arith, small, c.loop-pace.invariant.count, c.link.view_is, ap (λ (p : Pace). p.link) c.pace-item.is) in
    record {
      count = length-set needs c.link.inside.0 c.wanted_at.result ∙ c.loop-pace.invariant.count;
      each = λ scene into paced. needed_more scene into needs paces c.args.step place c.wanted_at.result c.link.inside.0 pace paced c.loop-pace-test.true c.pace-item.is c.link.view_is room c.wanted_at.ensures
          (c.loop-pace.invariant.each scene into paced);
    }

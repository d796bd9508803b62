use Rattle.std.proofs.Common.{◌∙◌, arith, refl}
use Rattle.act_orders.proofs.Orders.{broken, ended, less_left, wrote_more}
use Rattle.act_orders.proofs.order.drive.Goals as goal

pub loop-act-smaller-in-Continue-1 : goal.loop-act-smaller-in-Continue-1
loop-act-smaller-in-Continue-1 g c =
    let one = less_left _ _ _ _ _ _ c.loop-act.invariant.so_far c.in-Some.act c.in-Some.ensures.some c.do_act.new.ledger c.in_ok-do_act-in-Some.ensures.counts in
    omega (arith, one, c.in_ok-do_act-in-Some.ensures.waits)

pub loop-act-preserved-in-Continue-1 : goal.loop-act-preserved-in-Continue-1
loop-act-preserved-in-Continue-1 g c = record {
  so_far = wrote_more _ _ _ _ _ _ c.loop-act.invariant.so_far c.in-Some.act c.in-Some.ensures.some c.do_act.new.ledger c.do_act.new.page.items _ c.in_ok-do_act-in-Some.ensures.kept (rw c.in_ok-do_act-in-Some.ensures.limits refl) c.in_ok-do_act-in-Some.ensures.counts c.in_ok-do_act-in-Some.ensures.all;
  stays = c.in_ok-do_act-in-Some.ensures.stays ∙ c.loop-act.invariant.stays;
}

pub returns-in_err-do_act-in-Some-clause-order : goal.returns-in_err-do_act-in-Some-clause-order
returns-in_err-do_act-in-Some-clause-order g c =
    broken _ c.requires.opened.kept.faultless _ c.requires.fits _ _ _ _ _ _ c.loop-act.invariant.so_far c.in-Some.act c.in-Some.ensures.some c.in_err-do_act-in-Some.ensures.prefix c.from_residual.result c.from_residual.ensures.0

pub returns-then-not-drop_last-clause-order : goal.returns-then-not-drop_last-clause-order
returns-then-not-drop_last-clause-order g c =
    ended _ c.requires.opened.kept.faultless _ c.requires.fits _ _ _ _ c.loop-act.invariant.so_far (c.in-None.ensures.none refl (c.if-not-drop_last.ensures.none refl).0) _

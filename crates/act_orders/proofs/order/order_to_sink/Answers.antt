use Rattle.std.proofs.Common.{◌∙◌}
use Rattle.act_orders.proofs.Orders.{not_begun, written}
use Rattle.act_orders.proofs.order.order_to_sink.Goals as goal

pub returns-in_default-clause-order : goal.returns-in_default-clause-order
returns-in_default-clause-order g c = not_begun _ c.requires.faultless _ (c.args.plan.now.potentials.items, c.requires.fits.fits) _ _

pub returns-in_default-of_all-clause-order : goal.returns-in_default-of_all-clause-order
returns-in_default-of_all-clause-order g c = not_begun _ c.requires.faultless _ (c.args.plan.now.potentials.items, c.requires.fits.fits) _ _

pub returns-clause-order : goal.returns-clause-order
returns-clause-order g c = written _ _ _ _ _ _ _ _ (rw (c.in-Ok.ensures.limits_are ∙ c.deref.ensures.value) at c.in_ok-drive.ensures.order) c.write_page.ensures.all c.write_page.ensures.prefix

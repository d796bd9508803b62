use Rattle.std.proofs.Common.{ap}
use Rattle.scene_model.specs.declared.scene.AppDecl.{AppDecl}
use Rattle.scene_model.proofs.Faultless.{app_is}
use Rattle.port_inbox.specs.Holding.{IsLinkOf, IsRoutesOf}
use Rattle.app_turn.proofs.FreshInboxes.{few_items, fresh_events, links_small, same_items}
use Rattle.app_turn.proofs.opening.events_of.Goals as goal

pub inbox_links_of-requires-clause-links : goal.inbox_links_of-requires-clause-links
inbox_links_of-requires-clause-links c = links_small c.args.scene.now c.args.app c.args.port c.args.links.now c.requires.links

pub routes_of-requires-clause-links : goal.routes_of-requires-clause-links
routes_of-requires-clause-links c = links_small c.args.scene.now c.args.app c.args.port c.args.links.now c.requires.links

pub make-requires-clause-few : goal.make-requires-clause-few
make-requires-clause-few c = few_items (IsLinkOf c.args.scene.now) c.args.scene.now c.requires.scene c.args.app c.args.port c.args.links.now _ c.requires.links c.in_ok-inbox_links.ensures.each

pub make-requires-clause-same : goal.make-requires-clause-same
make-requires-clause-same c = same_items (IsLinkOf c.args.scene.now) (IsRoutesOf c.args.scene.now) c.args.links.now _ _ c.in_ok-inbox_links.ensures.each c.in_ok-routes.ensures

pub make-requires-clause-start : goal.make-requires-clause-start
make-requires-clause-start c = rw c.app-receiver.ensures (app_is c.args.scene.now c.requires.scene c.args.app c.requires.app).start

pub make-requires-clause-tick : goal.make-requires-clause-tick
make-requires-clause-tick c = rw c.app-receiver.ensures (app_is c.args.scene.now c.requires.scene c.args.app c.requires.app).tick

pub returns-clause-stands : goal.returns-clause-stands
returns-clause-stands c =
    rw c.in_ok-inbox.ensures (fresh_events c.args.scene.now c.args.app c.args.port c.requires.input c.in_ok-inbox_links.inbox_links.items c.app-receiver.result.now.start c.app-receiver.result.now.tick
    (ap (λ (a : AppDecl). a.start) c.app-receiver.ensures) (ap (λ (a : AppDecl). a.tick) c.app-receiver.ensures) (rw c.requires.links at c.in_ok-inbox_links.ensures.each)
    c.requires.carries c.in_ok-routes.routes.items (rw c.requires.links at c.in_ok-routes.ensures)).0

pub returns-clause-fresh : goal.returns-clause-fresh
returns-clause-fresh c =
    rw c.in_ok-inbox.ensures (fresh_events c.args.scene.now c.args.app c.args.port c.requires.input c.in_ok-inbox_links.inbox_links.items c.app-receiver.result.now.start c.app-receiver.result.now.tick
    (ap (λ (a : AppDecl). a.start) c.app-receiver.ensures) (ap (λ (a : AppDecl). a.tick) c.app-receiver.ensures) (rw c.requires.links at c.in_ok-inbox_links.ensures.each)
    c.requires.carries c.in_ok-routes.routes.items (rw c.requires.links at c.in_ok-routes.ensures)).1

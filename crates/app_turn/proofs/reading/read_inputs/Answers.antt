use Rattle.std.proofs.Common.{◌≡◌, ◌∙◌, ◌<◌, ◌+◌, ◌++◌, arith, ap, subst, sym, length, take, List, [], ◌∷◌}
use Rattle.std.proofs.lemmas.List.{length-take-le}
use Rattle.music_base.specs.declared.item.Item.{Item}
use Rattle.rule_turns.specs.Turning.{IsInput}
use Rattle.scene_model.specs.Lives.{input_by}
use Rattle.scene_model.specs.Scenes.{app_at, port_at}
use Rattle.app_turn.specs.PortInboxes.{HoldsAt}
use Rattle.app_turn.specs.declared.inbox.PortInbox.{PortInbox}
use Rattle.app_turn.proofs.Ports.{first_is, globals_are, length-plan, one_holds, one_read, rest_at, settled_at}
use Rattle.std.proofs.Math.ListN.{length-set}
use Rattle.app_turn.proofs.reading.read_inputs.Goals as goal

pub bounds-as_slice-port : goal.bounds-as_slice-port
bounds-as_slice-port c =
    let e = length-plan (app_at c.args.scene.now c.args.app).ports (app_at c.args.scene.now c.args.app).rules c.args.plan.now c.requires.planned in
    rw c.as_slice.ensures (omega (arith, e, c.requires.counted, c.loop-port.invariant.counted, c.loop-port-test.true, c.len-port-end.ensures))

pub read_port-requires-clause-globals : goal.read_port-requires-clause-globals
read_port-requires-clause-globals c =
    let small : c.loop-port.port < length (app_at c.args.scene.now c.args.app).ports = omega (arith, c.requires.counted, c.loop-port.invariant.counted, c.loop-port-test.true, c.len-port-end.ensures) in
    c.as_slice-globals.ensures ∙ ap (λ u. u.indices) (sym c.index-as_slice-port.is) ∙
    globals_are (app_at c.args.scene.now c.args.app).ports (app_at c.args.scene.now c.args.app).rules c.args.plan.now c.requires.planned c.loop-port.port small c.index-as_slice-port.result (rw c.as_slice.ensures at c.index-as_slice-port.is)

pub returns-in_err-items-clause-settled : goal.returns-in_err-items-clause-settled
returns-in_err-items-clause-settled c = λ p small.
    settled_at c.args.inboxes.now.items c.loop-port.inboxes.items c.loop-port.port c.args.step c.index_mut.result.now c.read_port.new.inbox (omega (arith, c.loop-port.invariant.counted, c.loop-port-test.true, c.len-port-end.ensures)) c.index_mut.ensures.value c.loop-port.invariant.settled c.loop-port.invariant.rest c.read_port.ensures.settled p

pub returns-in_err-put_at-clause-settled : goal.returns-in_err-put_at-clause-settled
returns-in_err-put_at-clause-settled c = λ p small.
    settled_at c.args.inboxes.now.items c.loop-port.inboxes.items c.loop-port.port c.args.step c.index_mut.result.now c.read_port.new.inbox (omega (arith, c.loop-port.invariant.counted, c.loop-port-test.true, c.len-port-end.ensures)) c.index_mut.ensures.value c.loop-port.invariant.settled c.loop-port.invariant.rest c.read_port.ensures.settled p

pub loop-port-preserved : goal.loop-port-preserved
loop-port-preserved c =
    let small : c.loop-port.port < length c.loop-port.inboxes.items = omega (arith, c.loop-port.invariant.counted, c.loop-port-test.true, c.len-port-end.ensures) in
    let here = first_is c.args.inboxes.now.items c.loop-port.inboxes.items c.loop-port.port c.args.step c.index_mut.result.now c.read_port.new.inbox small c.index_mut.ensures.value c.loop-port.invariant.settled c.loop-port.invariant.rest c.read_port.ensures.settled in
    let lists : List (List Item) = take c.loop-port.port c.loop-port.all.items in
    let counted : length lists ≡ c.loop-port.port = length-take-le c.loop-port.port c.loop-port.all.items c.loop-port.invariant.all_count in
    let put : take (c.loop-port.port + 1) c.put_at.new.all.items ≡ lists ++ c.in_ok-items.items ∷ [] = c.in_ok-put_at.ensures.put ∙ ap (λ (xs : List (List Item)). xs ++ c.in_ok-items.items ∷ []) c.list_at-list.ensures.before in
    record {
      counted = length-set c.loop-port.inboxes.items c.loop-port.port c.read_port.new.inbox ∙ c.loop-port.invariant.counted;
      settled = λ p l. settled_at c.args.inboxes.now.items c.loop-port.inboxes.items c.loop-port.port c.args.step c.index_mut.result.now c.read_port.new.inbox small c.index_mut.ensures.value c.loop-port.invariant.settled c.loop-port.invariant.rest c.read_port.ensures.settled p;
      rest = rest_at c.args.inboxes.now.items c.loop-port.inboxes.items c.loop-port.port c.args.step c.index_mut.result.now c.read_port.new.inbox small c.index_mut.ensures.value c.loop-port.invariant.settled c.loop-port.invariant.rest c.read_port.ensures.settled;
      all_count = omega (arith, c.in_ok-put_at.ensures.count);
      shaped = rw put (one_holds (λ p items. IsInput (port_at c.args.scene.now c.args.app p).direction (port_at c.args.scene.now c.args.app p).kind (port_at c.args.scene.now c.args.app p) items) c.loop-port.port lists c.in_ok-items.items counted c.loop-port.invariant.shaped c.in_ok-items.ensures.shaped);
      reads = λ table proper holds.
          let held : HoldsAt c.args.scene.now c.args.app c.loop-port.port c.args.step c.index_mut.result.now table = subst (λ (x : PortInbox). HoldsAt c.args.scene.now c.args.app c.loop-port.port c.args.step x table) (sym here) (holds c.loop-port.port (omega (arith, small, c.loop-port.invariant.counted))) in
          put ∙ one_read (λ p. input_by (port_at c.args.scene.now c.args.app p).direction (port_at c.args.scene.now c.args.app p).kind c.args.scene.now table c.args.app c.args.step p) c.loop-port.port lists c.in_ok-items.items (c.loop-port.invariant.reads table proper holds) (c.in_ok-items.ensures.reads table proper held);
    }

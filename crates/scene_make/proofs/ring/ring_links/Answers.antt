use Rattle.std.proofs.Common.{◌≡◌, ◌∙◌, ◌*◌, ◌+◌, [], ◌∷◌, ◌++◌, length, length-append, ap, sym, arith, append_assoc}
use Rattle.scene_make.proofs.Spelled.{count_links, one_more}
use Rattle.scene_make.proofs.ring.ring_links.Goals as goal

pub push-requires-clause-room : goal.push-requires-clause-room
push-requires-clause-room c =
    let len : length c.loop-place.links ≡ 2 * c.loop-place.place = ap length c.loop-place.invariant ∙ count_links c.args.count c.loop-place.place in
    let lt = c.loop-place-test.true in
    omega (arith, len, lt)

pub push-requires-in-loop-place-clause-room : goal.push-requires-in-loop-place-clause-room
push-requires-in-loop-place-clause-room c =
    let len : length c.loop-place.links ≡ 2 * c.loop-place.place = ap length c.loop-place.invariant ∙ count_links c.args.count c.loop-place.place in
    let one : length c.push.new.self ≡ length c.loop-place.links + 1 = ap length c.in_ok-push.ensures.ok ∙ length-append c.loop-place.links (c.in_ok-event_link.field-0 ∷ []) in
    let lt = c.loop-place-test.true in
    omega (arith, len, one, lt)

pub loop-place-preserved : goal.loop-place-preserved
loop-place-preserved c =
    c.in_ok-push-2.ensures.ok
    ∙ (λ i. c.in_ok-push.ensures.ok i ++ c.in_ok-value_link.field-0 ∷ [])
    ∙ append_assoc c.loop-place.links (c.in_ok-event_link.field-0 ∷ []) (c.in_ok-value_link.field-0 ∷ [])
    ∙ (λ i. c.loop-place.invariant i ++ c.in_ok-event_link.ensures i ∷ c.in_ok-value_link.ensures i ∷ [])
    ∙ sym (one_more c.args.count c.loop-place.place)

use Rattle.std.proofs.Common.{◌≡◌, ◌∙◌, ◌+◌, refl, ap, arith, slice_set}
use Rattle.std.specs.Prelude.{slice_index}
use Rattle.std.specs.Arc.{arc_value}
use Rattle.std.proofs.lemmas.List.{get_or_read}
use Rattle.std.proofs.lemmas.Result.{MatchResult-from_err}
use Rattle.scene_model.specs.Orders.{one_more}
use Rattle.scene_model.specs.Scenes.{link_at}
use Rattle.scene_model.specs.declared.scene.Link.{Link}
use Rattle.app_turn.proofs.Acts.{are_short, few, number_is, one_more-read, place_there, port_still, port_there, roomier_is, roomier_same, took, took_is, wanted-few}
use Rattle.app_turn.proofs.machine.AppMachine.take.Goals as goal

pub make_room-requires-clause-port : goal.make_room-requires-clause-port
make_room-requires-clause-port g c =
    let wants = rw (← c.self.view_is, ← c.link.view_is) at c.requires.wants in
    let port : c.link-port.result.to_port ≡ (link_at (arc_value c.self.inside.scene) c.link.inside.0).to_port = ap (λ (l : Link). l.to_port) (rw (c.deref.ensures, ← c.link.view_is) at c.link-port.ensures) in
    rw port (port_there _ _ c.self.invariant c.link.inside.0 wants)

pub make_room-requires-clause-place : goal.make_room-requires-clause-place
make_room-requires-clause-place g c =
    let wants = rw (← c.self.view_is, ← c.link.view_is) at c.requires.wants in
    let port : c.link-port.result.to_port ≡ (link_at (arc_value c.self.inside.scene) c.link.inside.0).to_port = ap (λ (l : Link). l.to_port) (rw (c.deref.ensures, ← c.link.view_is) at c.link-port.ensures) in
    let place : c.index-place.result.now ≡ slice_index c.self.inside.places.items c.link.inside.0 = get_or_read c.self.inside.places.items c.link.inside.0 c.index-place.result.now (omega (arith, wants.link, c.self.invariant.place_count)) c.index-place.ensures 0 in
    rw (port, place) (place_there _ _ c.self.invariant c.link.inside.0 wants)

pub invariant_of-self : goal.invariant_of-self
invariant_of-self g c =
    let wants = rw (← c.self.view_is, ← c.link.view_is) at c.requires.wants in
    let port : c.link-port.result.to_port ≡ (link_at (arc_value c.self.inside.scene) c.link.inside.0).to_port = ap (λ (l : Link). l.to_port) (rw (c.deref.ensures, ← c.link.view_is) at c.link-port.ensures) in
    let place : c.index-place.result.now ≡ slice_index c.self.inside.places.items c.link.inside.0 = get_or_read c.self.inside.places.items c.link.inside.0 c.index-place.result.now (omega (arith, wants.link, c.self.invariant.place_count)) c.index-place.ensures 0 in
    let same = rw (port, place) at c.in_err-make_room.ensures.same in
    roomier_is _ _ c.self.invariant c.link.inside.0 wants _ same

pub returns-in_err-make_room : goal.returns-in_err-make_room
returns-in_err-make_room g c =
    let wants = rw (← c.self.view_is, ← c.link.view_is) at c.requires.wants in
    let port : c.link-port.result.to_port ≡ (link_at (arc_value c.self.inside.scene) c.link.inside.0).to_port = ap (λ (l : Link). l.to_port) (rw (c.deref.ensures, ← c.link.view_is) at c.link-port.ensures) in
    let place : c.index-place.result.now ≡ slice_index c.self.inside.places.items c.link.inside.0 = get_or_read c.self.inside.places.items c.link.inside.0 c.index-place.result.now (omega (arith, wants.link, c.self.invariant.place_count)) c.index-place.ensures 0 in
    let same = rw (port, place) at c.in_err-make_room.ensures.same in
    MatchResult-from_err c.from_residual.result _ _ c.from_residual.ensures.0 (λ y. (refl, roomier_same _ _ c.self.invariant c.link.inside.0 wants _ same ∙ c.self.view_is))

pub admit-requires-clause-port : goal.admit-requires-clause-port
admit-requires-clause-port g c =
    let wants = rw (← c.self.view_is, ← c.link.view_is) at c.requires.wants in
    let port : c.link-port.result.to_port ≡ (link_at (arc_value c.self.inside.scene) c.link.inside.0).to_port = ap (λ (l : Link). l.to_port) (rw (c.deref.ensures, ← c.link.view_is) at c.link-port.ensures) in
    let place : c.index-place.result.now ≡ slice_index c.self.inside.places.items c.link.inside.0 = get_or_read c.self.inside.places.items c.link.inside.0 c.index-place.result.now (omega (arith, wants.link, c.self.invariant.place_count)) c.index-place.ensures 0 in
    let same = rw (port, place) at c.in_ok-make_room.ensures.same in
    rw port (port_still _ _ c.self.invariant c.link.inside.0 wants _ same)

pub admit-requires-clause-number : goal.admit-requires-clause-number
admit-requires-clause-number g c =
    let wants = rw (← c.self.view_is, ← c.link.view_is) at c.requires.wants in
    let port : c.link-port.result.to_port ≡ (link_at (arc_value c.self.inside.scene) c.link.inside.0).to_port = ap (λ (l : Link). l.to_port) (rw (c.deref.ensures, ← c.link.view_is) at c.link-port.ensures) in
    let place : c.index-place.result.now ≡ slice_index c.self.inside.places.items c.link.inside.0 = get_or_read c.self.inside.places.items c.link.inside.0 c.index-place.result.now (omega (arith, wants.link, c.self.invariant.place_count)) c.index-place.ensures 0 in
    let same = rw (port, place) at c.in_ok-make_room.ensures.same in
    let next = rw (← c.self.view_is, ← c.link.view_is) at (c.requires.gives c.in-Some.block _ c.in-Some.ensures) in
    rw (port, place) (number_is _ _ c.self.invariant c.link.inside.0 wants _ same c.in-Some.block next)

pub admit-requires-clause-short : goal.admit-requires-clause-short
admit-requires-clause-short g c =
    let wants = rw (← c.self.view_is, ← c.link.view_is) at c.requires.wants in
    let port : c.link-port.result.to_port ≡ (link_at (arc_value c.self.inside.scene) c.link.inside.0).to_port = ap (λ (l : Link). l.to_port) (rw (c.deref.ensures, ← c.link.view_is) at c.link-port.ensures) in
    let place : c.index-place.result.now ≡ slice_index c.self.inside.places.items c.link.inside.0 = get_or_read c.self.inside.places.items c.link.inside.0 c.index-place.result.now (omega (arith, wants.link, c.self.invariant.place_count)) c.index-place.ensures 0 in
    let same = rw (port, place) at c.in_ok-make_room.ensures.same in
    let next = rw (← c.self.view_is, ← c.link.view_is) at (c.requires.gives c.in-Some.block _ c.in-Some.ensures) in
    are_short _ _ c.self.invariant c.link.inside.0 wants _ same c.in-Some.block next

pub admit-requires-clause-count : goal.admit-requires-clause-count
admit-requires-clause-count g c =
    let wants = rw (← c.self.view_is, ← c.link.view_is) at c.requires.wants in
    let port : c.link-port.result.to_port ≡ (link_at (arc_value c.self.inside.scene) c.link.inside.0).to_port = ap (λ (l : Link). l.to_port) (rw (c.deref.ensures, ← c.link.view_is) at c.link-port.ensures) in
    let place : c.index-place.result.now ≡ slice_index c.self.inside.places.items c.link.inside.0 = get_or_read c.self.inside.places.items c.link.inside.0 c.index-place.result.now (omega (arith, wants.link, c.self.invariant.place_count)) c.index-place.ensures 0 in
    let same = rw (port, place) at c.in_ok-make_room.ensures.same in
    let next = rw (← c.self.view_is, ← c.link.view_is) at (c.requires.gives c.in-Some.block _ c.in-Some.ensures) in
    few _ _ c.self.invariant c.link.inside.0 wants _ same c.in-Some.block next

pub overflow_add-index_mut : goal.overflow_add-index_mut
overflow_add-index_mut g c =
    let wants = rw (← c.self.view_is, ← c.link.view_is) at c.requires.wants in
    let read = get_or_read c.self.inside.taken.items c.link.inside.0 c.index_mut.result.now (omega (arith, wants.link, c.self.invariant.takes)) c.index_mut.ensures.value 0 in
    let w = wanted-few (arc_value c.self.inside.scene) c.link.inside.0 c.self.inside.ran c.self.invariant.faultless wants.link in
    omega (arith, read, wants.is_wanted, w.0, w.1)

pub invariant_of-self-in-Some : goal.invariant_of-self-in-Some
invariant_of-self-in-Some g c =
    let wants = rw (← c.self.view_is, ← c.link.view_is) at c.requires.wants in
    let port : c.link-port.result.to_port ≡ (link_at (arc_value c.self.inside.scene) c.link.inside.0).to_port = ap (λ (l : Link). l.to_port) (rw (c.deref.ensures, ← c.link.view_is) at c.link-port.ensures) in
    let place : c.index-place.result.now ≡ slice_index c.self.inside.places.items c.link.inside.0 = get_or_read c.self.inside.places.items c.link.inside.0 c.index-place.result.now (omega (arith, wants.link, c.self.invariant.place_count)) c.index-place.ensures 0 in
    let same = rw (port, place) at c.in_ok-make_room.ensures.same in
    let next = rw (← c.self.view_is, ← c.link.view_is) at (c.requires.gives c.in-Some.block _ c.in-Some.ensures) in
    let more : slice_set c.self.inside.taken.items c.link.inside.0 (c.index_mut.result.now + 1) ≡ one_more c.self.inside.taken.items c.link.inside.0 = one_more-read c.self.inside.taken.items c.link.inside.0 c.index_mut.result.now (omega (arith, wants.link, c.self.invariant.takes)) c.index_mut.ensures.value in
    let fed = rw (port, place) at c.admit.ensures in
    took_is _ _ c.self.invariant c.link.inside.0 wants _ same c.in-Some.block next _ fed _ more

pub invariant_of-self-in-None : goal.invariant_of-self-in-None
invariant_of-self-in-None g c =
    let wants = rw (← c.self.view_is, ← c.link.view_is) at c.requires.wants in
    let port : c.link-port.result.to_port ≡ (link_at (arc_value c.self.inside.scene) c.link.inside.0).to_port = ap (λ (l : Link). l.to_port) (rw (c.deref.ensures, ← c.link.view_is) at c.link-port.ensures) in
    let place : c.index-place.result.now ≡ slice_index c.self.inside.places.items c.link.inside.0 = get_or_read c.self.inside.places.items c.link.inside.0 c.index-place.result.now (omega (arith, wants.link, c.self.invariant.place_count)) c.index-place.ensures 0 in
    let same = rw (port, place) at c.in_ok-make_room.ensures.same in
    roomier_is _ _ c.self.invariant c.link.inside.0 wants _ same

pub returns-in-Some : goal.returns-in-Some
returns-in-Some g c =
    let wants = rw (← c.self.view_is, ← c.link.view_is) at c.requires.wants in
    let port : c.link-port.result.to_port ≡ (link_at (arc_value c.self.inside.scene) c.link.inside.0).to_port = ap (λ (l : Link). l.to_port) (rw (c.deref.ensures, ← c.link.view_is) at c.link-port.ensures) in
    let place : c.index-place.result.now ≡ slice_index c.self.inside.places.items c.link.inside.0 = get_or_read c.self.inside.places.items c.link.inside.0 c.index-place.result.now (omega (arith, wants.link, c.self.invariant.place_count)) c.index-place.ensures 0 in
    let same = rw (port, place) at c.in_ok-make_room.ensures.same in
    let next = rw (← c.self.view_is, ← c.link.view_is) at (c.requires.gives c.in-Some.block _ c.in-Some.ensures) in
    let more : slice_set c.self.inside.taken.items c.link.inside.0 (c.index_mut.result.now + 1) ≡ one_more c.self.inside.taken.items c.link.inside.0 = one_more-read c.self.inside.taken.items c.link.inside.0 c.index_mut.result.now (omega (arith, wants.link, c.self.invariant.takes)) c.index_mut.ensures.value in
    let fed = rw (port, place) at c.admit.ensures in
    (c.in-Some.block, c.in-Some.ensures, rw (← c.self.view_is, ← c.link.view_is) (took _ _ c.self.invariant c.link.inside.0 wants _ same c.in-Some.block next _ fed _ more))

pub returns-in-None : goal.returns-in-None
returns-in-None g c =
    let wants = rw (← c.self.view_is, ← c.link.view_is) at c.requires.wants in
    let port : c.link-port.result.to_port ≡ (link_at (arc_value c.self.inside.scene) c.link.inside.0).to_port = ap (λ (l : Link). l.to_port) (rw (c.deref.ensures, ← c.link.view_is) at c.link-port.ensures) in
    let place : c.index-place.result.now ≡ slice_index c.self.inside.places.items c.link.inside.0 = get_or_read c.self.inside.places.items c.link.inside.0 c.index-place.result.now (omega (arith, wants.link, c.self.invariant.place_count)) c.index-place.ensures 0 in
    let same = rw (port, place) at c.in_ok-make_room.ensures.same in
    (c.in-None.ensures, roomier_same _ _ c.self.invariant c.link.inside.0 wants _ same ∙ c.self.view_is)

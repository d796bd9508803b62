use Rattle.std.proofs.Common.{◌≡◌, ◌∙◌, ◌<◌, List, ℕ, ap, rules, length}
use Rattle.std.specs.Prelude.{slice_index}
use Rattle.std.proofs.lemmas.List.{get_or_read}
use Rattle.scene_model.specs.Scenes.{links_to}
use Rattle.app_turn.proofs.FreshInboxes.{fresh_values, links_small}
use Rattle.app_turn.proofs.opening.samples_of.Goals as goal

pub sender_of-sender-requires-clause-link : goal.sender_of-sender-requires-clause-link
sender_of-sender-requires-clause-link c =
    let some : 0 < length c.args.links.now = search rules in
    rw (get_or_read c.args.links.now 0 c.index-links-0.result some c.index-links-0.is 0) (links_small c.args.scene.now c.args.app c.args.port c.args.links.now c.requires.links 0 some)

pub receiver_of-receiver-requires-clause-link : goal.receiver_of-receiver-requires-clause-link
receiver_of-receiver-requires-clause-link c =
    let some : 0 < length c.args.links.now = search rules in
    rw (get_or_read c.args.links.now 0 c.index-links-0.result some c.index-links-0.is 0) (links_small c.args.scene.now c.args.app c.args.port c.args.links.now c.requires.links 0 some)

pub delay_of-requires-clause-link : goal.delay_of-requires-clause-link
delay_of-requires-clause-link c =
    let some : 0 < length c.args.links.now = search rules in
    rw (get_or_read c.args.links.now 0 c.index-links-0.result some c.index-links-0.is 0) (links_small c.args.scene.now c.args.app c.args.port c.args.links.now c.requires.links 0 some)

pub input_of-requires-clause-link : goal.input_of-requires-clause-link
input_of-requires-clause-link c =
    let some : 0 < length c.args.links.now = search rules in
    rw (get_or_read c.args.links.now 0 c.index-links-0.result some c.index-links-0.is 0) (links_small c.args.scene.now c.args.app c.args.port c.args.links.now c.requires.links 0 some)

pub output_of-requires-clause-link : goal.output_of-requires-clause-link
output_of-requires-clause-link c =
    let some : 0 < length c.args.links.now = search rules in
    rw (get_or_read c.args.links.now 0 c.index-links-0.result some c.index-links-0.is 0) (links_small c.args.scene.now c.args.app c.args.port c.args.links.now c.requires.links 0 some)

pub returns-clause-stands : goal.returns-clause-stands
returns-clause-stands c =
    let some : 0 < length c.args.links.now = search rules in
    let read = get_or_read c.args.links.now 0 c.index-links-0.result some c.index-links-0.is 0 in
    let link : c.index-links-0.result ≡ slice_index (links_to c.args.scene.now c.args.app c.args.port) 0 = read ∙ ap (λ (cs : List ℕ). slice_index cs 0) c.requires.links in
    rw (c.in_ok-inbox.ensures, c.delay_of.ensures.value, c.input_of.ensures, c.sender_of-sender.ensures, c.receiver_of-receiver.ensures, link)
    (fresh_values c.args.scene.now c.requires.scene c.args.app c.args.port c.requires.input c.requires.carries (rw c.requires.links at some))

use Rattle.music_setup.proofs.Faultless.{linked_is}
use Rattle.music_setup.proofs.OfScenes.{few_ports, read_scene}
use Rattle.music_setup.proofs.scenes.read_scene.Goals as goal

pub match_links-requires-clause-apps : goal.match_links-requires-clause-apps
match_links-requires-clause-apps c = rw c.as_slice.ensures c.in_ok-stop.ensures.lawful.few

pub match_links-requires-clause-ports : goal.match_links-requires-clause-ports
match_links-requires-clause-ports c = rw c.as_slice.ensures (few_ports c.in_ok-stop.apps c.in_ok-stop.ensures.lawful)

pub returns-clause-scene : goal.returns-clause-scene
returns-clause-scene c =
    read_scene c.args.config.now c.in_ok-stop.stop c.in_ok-stop.apps c.in_ok-links.links c.in_ok-stop.ensures.apps
    (rw (c.as_slice-2.ensures.items, c.as_slice.ensures) at c.in_ok-links.ensures.links)

pub returns-clause-faultless : goal.returns-clause-faultless
returns-clause-faultless c =
    linked_is c.in_ok-stop.stop c.in_ok-stop.apps c.args.config.now.links c.in_ok-links.links c.in_ok-stop.ensures.early c.in_ok-stop.ensures.lawful c.as_slice-2.ensures.lawful
    (rw (c.as_slice-2.ensures.items, c.as_slice.ensures) at c.in_ok-links.ensures.links)

use Rattle.std.proofs.Common.{◌<◌, length}
use Rattle.config_text.proofs.Keeping.{links_push}
use Rattle.config_text.proofs.links.Links.push.Goals as goal

pub invariant_of-self-2 : goal.invariant_of-self-2
invariant_of-self-2 c =
    let room : length c.self.inside.items.items < 64 = rw c.self.view_is c.requires.room in
    rw c.in_ok-push.ensures.items (links_push c.self.inside.items.items c.args.link c.self.invariant c.lawful.ensures room)

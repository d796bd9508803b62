use Rattle.std.proofs.Common.{◌≡◌, ◌-ℤ◌, ◌*ℤ◌, pos, rules}
use Rattle.music_base.specs.Numbers.{floor_div}
use Rattle.port_inbox.proofs.Between.{part_is}
use Rattle.port_inbox.proofs.parts.part.Goals as goal

pub returns-clause-within : goal.returns-clause-within
returns-clause-within c =
    let far : c.difference.result ≡ c.args.next -ℤ c.args.first = search rules in
    let gone : c.floored.result ≡ floor_div (c.difference.result *ℤ pos c.args.weight) c.args.tick = search rules in
    let within = part_is c.difference.result c.floored.result c.args.weight c.args.tick c.requires.weight c.args.first c.args.next far gone in
    search (rules, within)

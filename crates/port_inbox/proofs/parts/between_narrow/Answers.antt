use Rattle.std.proofs.Common.{◌≡◌, ◌-ℤ◌, ◌*ℤ◌, pos, refl, rules}
use Rattle.music_base.specs.Numbers.{floor_div}
use Rattle.port_inbox.proofs.Between.{part_is}
use Rattle.port_inbox.proofs.parts.between_narrow.Goals as goal

pub sum_narrow-requires : goal.sum_narrow-requires
sum_narrow-requires c =
    let whole : c.args.whole ≡ (c.args.next -ℤ c.args.first) *ℤ pos c.args.weight = c.requires.whole in
    let floored : c.floored_narrow.result ≡ floor_div c.args.whole c.args.tick = search rules in
    let gone : c.floored_narrow.result ≡ floor_div ((c.args.next -ℤ c.args.first) *ℤ pos c.args.weight) c.args.tick = rw whole at floored in
    let within = part_is (c.args.next -ℤ c.args.first) c.floored_narrow.result c.args.weight c.args.tick c.requires.weight c.args.first c.args.next refl gone in
    search (rules, within)

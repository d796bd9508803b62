use Rattle.std.proofs.Common.{◌∙◌, ◌≡◌, ◌<◌, false, get_or, length, arith, rules}
use Rattle.std.specs.Prelude.{◌==◌, pos}
use Rattle.std.specs.List.{list_any}
use Rattle.music_base.specs.declared.item.Item.TheVariants.{Value}
use Rattle.scene_model.specs.Tables.{value_in}
use Rattle.port_inbox.proofs.Placing.{value-at, value-nowhere, values-length}
use Rattle.port_inbox.proofs.kept_sample.value_placed.Goals as goal

pub value_at-requires : goal.value_at-requires
value_at-requires c =
    let place : (c.in-Some.place < length c.args.indices.now) × (get_or c.args.indices.now c.in-Some.place 0 ≡ c.args.global) = rw c.in-Some.is at c.requires.place in
    omega (arith, place.0, values-length c.args.indices.now c.args.items.now c.requires.values)

pub returns-in-Some : goal.returns-in-Some
returns-in-Some c =
    let place : (c.in-Some.place < length c.args.indices.now) × (get_or c.args.indices.now c.in-Some.place 0 ≡ c.args.global) = rw c.in-Some.is at c.requires.place in
    let none = Value 0 (pos 0) in
    let is : c.value_at.result ≡ value_in c.args.items.now c.args.global = c.value_at.ensures none ∙ value-at 0 c.args.indices.now c.args.items.now c.args.global c.in-Some.place none c.requires.values c.requires.ascend place.0 place.1 in
    search (rules, is)

pub returns-in-None : goal.returns-in-None
returns-in-None c =
    let nowhere : list_any (λ i. i == c.args.global) c.args.indices.now ≡ false = rw c.in-None.is at c.requires.place in
    value-nowhere c.args.indices.now c.args.items.now c.args.global c.requires.values nowhere

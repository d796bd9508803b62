use Rattle.std.proofs.Common.{◌≡◌, ◌-◌, arith, rules, drop, length, length-drop, subst, take, true, false, List}
use Rattle.std.specs.Prelude.{nat_lt}
use Rattle.std.specs.List.Sorted.{IsPartitionPoint}
use Rattle.std.proofs.lemmas.List.{take_all}
use Rattle.std.proofs.lemmas.List.Sorted.{IsNonDecreasingBy-drop, IsNonDecreasingBy-take, IsPartitionPoint-from_clause, IsPartitionedBy-ltb}
use Rattle.music_base.specs.Items.{time_of}
use Rattle.music_base.specs.declared.item.Item.{Item}
use Rattle.port_inbox.proofs.Climbing.{part_is}
use Rattle.port_inbox.proofs.kept.part_in.Goals as goal

pub returns : goal.returns
returns c =
    let items = c.args.items.now in
    let window = c.args.window.now in
    let before = c.partition_point-before.result in
    let rest : List Item = take (length items - before) (drop before items) in
    let same : rest ≡ drop before items = take_all (length items - before) (drop before items) (omega (arith, length-drop before items)) in
    let first = IsPartitionPoint-from_clause (λ (item : Item). nat_lt (time_of item) window.from) items before c.partition_point-before.ensures.partitioned (IsPartitionedBy-ltb time_of items window.from c.requires) (λ a r f' k. search rules) in
    let second = IsPartitionPoint-from_clause (λ (item : Item). nat_lt (time_of item) window.to) rest c.partition_point-count.result c.partition_point-count.ensures.partitioned
    (IsPartitionedBy-ltb time_of rest window.to (IsNonDecreasingBy-take time_of (length items - before) (drop before items) (IsNonDecreasingBy-drop time_of before items c.requires))) (λ a r f' k. search rules) in
    let point : List Item → Type 0 = λ xs. IsPartitionPoint (λ (item : Item). nat_lt (time_of item) window.to ≡ true) (λ (item : Item). nat_lt (time_of item) window.to ≡ false) xs c.partition_point-count.result in
    rw same (part_is window items before c.partition_point-count.result first (subst point same second))

-- The latest time of a list of items, found item by item, and what it tells.
use Rattle.std.proofs.Common.{ℕ, ◌+◌, ◌<◌, ◌≤◌, ◌≡◌, max, refl, ap, arith, List, [], ◌∷◌, length, get_or, drop, Bool, true, false, Option, Some, None}
use Rattle.std.specs.Prelude.{nat_le, ◌||◌}
use Rattle.std.specs.List.{list_any}
use Rattle.std.proofs.lemmas.Bool.Decides.{nat_tests}
use Rattle.music_base.specs.declared.item.Item.{Item}
use Rattle.music_base.proofs.Gathered.{drop_next}
use Rattle.std.proofs.lemmas.List.{drop_all}
use Rattle.port_inbox.specs.Gathering.{comes_from, is_time_from, later_of, latest_of, sent_at}

pub later_assoc : (a b c : Option ℕ) → later_of (later_of a b) c ≡ later_of a (later_of b c)
later_assoc None b c = refl
later_assoc (Some x) None c = refl
later_assoc (Some x) (Some y) None = refl
later_assoc (Some x) (Some y) (Some z) = let e : max (max x y) z ≡ max x (max y z) = omega arith in ap (λ n. Some n) e

pub later_none : (a : Option ℕ) → later_of a None ≡ a
later_none None = refl
later_none (Some x) = refl

pub latest_next : (items : List Item) (i : ℕ) (d : Item) → i < length items → latest_of (drop i items) ≡ later_of (sent_at (get_or items i d)) (latest_of (drop (i + 1) items))
latest_next items i d lt = ap latest_of (drop_next items i d lt)

pub latest_end : (items : List Item) (i : ℕ) → length items ≤ i → latest_of (drop i items) ≡ None
latest_end items i past = ap latest_of (drop_all i items past)

later_from : (from : ℕ) (a b : Option ℕ) → is_time_from from (later_of a b) ≡ (is_time_from from a || is_time_from from b)
later_from from None b = refl
later_from from (Some x) None = go (nat_le from x)
  where
    go : (b : Bool) → b ≡ (b || false)
    go true = refl
    go false = refl
later_from from (Some x) (Some y) = grind (arith, nat_tests)

-- some item comes at a time or later where the latest one does
pub latest_from : (from : ℕ) (items : List Item) → is_time_from from (latest_of items) ≡ list_any (comes_from from) items
latest_from from [] = refl
latest_from from (item ∷ items) = rw (later_from from (sent_at item) (latest_of items), latest_from from items) refl

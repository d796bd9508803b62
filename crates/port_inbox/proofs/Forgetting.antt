-- What is dropped by comparing times is what is past, and what is found by comparing them is what is due.
use Rattle.std.proofs.Common.{ℕ, ◌+◌, ◌-◌, ◌≤◌, ◌≡◌, refl, ap, arith, List, [], ◌∷◌, length, Bool}
use Rattle.std.specs.Prelude.{nat_le}
use Rattle.std.specs.List.{filter, filter_map, flat_map, list_any}
use Rattle.music_base.specs.Clocks.{due_step_from}
use Rattle.music_base.specs.Items.{time_of}
use Rattle.music_base.specs.declared.item.Block.{Block}
use Rattle.music_base.specs.declared.item.Item.{Item}
use Rattle.music_base.specs.declared.item.Item.TheVariants.{Event, Message, Value}
use Rattle.scene_model.specs.Due.{is_step_from}
use Rattle.port_inbox.specs.Due.{AreShort, falls_from}
use Rattle.port_inbox.specs.Gathering.{AreAllShort, comes_from, found, told}
use Rattle.port_inbox.specs.Inboxes.{forgotten}
use Rattle.port_inbox.specs.declared.arrivals.InboxLink.{InboxLink}

-- ---- from a time on

module _ (start tick step late from : ℕ) (at : (t : ℕ) → t ≤ 10_000_000_000_000_000 → nat_le from t ≡ is_step_from step (due_step_from t late start tick)) where
  comes_is : (item : Item) → time_of item ≤ 10_000_000_000_000_000 → comes_from from item ≡ falls_from start tick step late item
  comes_is (Event e) short = at e.time short
  comes_is (Message m) short = at m.time short
  comes_is (Value global value) short = refl

  any_is : (items : List Item) → AreShort items → list_any (comes_from from) items ≡ list_any (falls_from start tick step late) items
  any_is [] short = refl
  any_is (item ∷ items) short = rw (comes_is item short.0, any_is items short.1) refl

  pub kept_is : (blocks : List Block) → AreAllShort blocks
      → filter (λ (block : Block). list_any (comes_from from) block.items) blocks ≡ filter (λ (block : Block). list_any (falls_from start tick step late) block.items) blocks
  kept_is [] short = refl
  kept_is (block ∷ blocks) short = rw (any_is block.items short.0, kept_is blocks short.1) refl

-- a connection whose past blocks were dropped, and whose room stayed
pub forgot : (link : InboxLink) (admitted : ℕ) (kept left : List Block) (room n room' m start tick step : ℕ)
    → left ≡ filter (λ (block : Block). list_any (falls_from start tick step link.latency) block.items) kept → room' ≡ room → n ≡ length kept → m ≡ length left → n ≤ room → m ≤ n
    → record { link = link; admitted = admitted; kept = left; spare = room' - m } ≡ forgotten start tick step (record { link = link; admitted = admitted; kept = kept; spare = room - n })
forgot link admitted kept left room n room' m start tick step e same len len' within less =
    let lengths : length left ≡ length (filter (λ (block : Block). list_any (falls_from start tick step link.latency) block.items) kept) = ap length e in
    let spare : room' - m ≡ (room - n) + (length kept - length (filter (λ (block : Block). list_any (falls_from start tick step link.latency) block.items) kept)) =
    omega (arith, lengths, same, len, len', within, less) in
    λ i. record { link = link; admitted = admitted; kept = e i; spare = spare i }

-- ---- what is found

module _ (p q : ℕ → Bool) (at : (t : ℕ) → t ≤ 10_000_000_000_000_000 → p t ≡ q t) where
  module _ (line : ℕ) (link : InboxLink) where
    found_is : (item : Item) → time_of item ≤ 10_000_000_000_000_000 → found p line link item ≡ found q line link item
    found_is (Event e) short = rw (at e.time short) refl
    found_is (Message m) short = refl
    found_is (Value global value) short = refl

    items_found : (items : List Item) → AreShort items → filter_map (found p line link) items ≡ filter_map (found q line link) items
    items_found [] short = refl
    items_found (item ∷ items) short = rw (found_is item short.0, items_found items short.1) refl

    pub found_same : (blocks : List Block) → AreAllShort blocks
        → flat_map (λ (block : Block). filter_map (found p line link) block.items) blocks ≡ flat_map (λ (block : Block). filter_map (found q line link) block.items) blocks
    found_same [] short = refl
    found_same (block ∷ blocks) short = rw (items_found block.items short.0, found_same blocks short.1) refl

  module _ (link : InboxLink) where
    told_is : (item : Item) → time_of item ≤ 10_000_000_000_000_000 → told p link item ≡ told q link item
    told_is (Event e) short = refl
    told_is (Message m) short = rw (at m.time short) refl
    told_is (Value global value) short = refl

    items_told : (items : List Item) → AreShort items → filter_map (told p link) items ≡ filter_map (told q link) items
    items_told [] short = refl
    items_told (item ∷ items) short = rw (told_is item short.0, items_told items short.1) refl

    pub told_same : (blocks : List Block) → AreAllShort blocks
        → flat_map (λ (block : Block). filter_map (told p link) block.items) blocks ≡ flat_map (λ (block : Block). filter_map (told q link) block.items) blocks
    told_same [] short = refl
    told_same (block ∷ blocks) short = rw (items_told block.items short.0, told_same blocks short.1) refl

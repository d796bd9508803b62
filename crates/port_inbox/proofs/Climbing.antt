-- Items whose times never fall: what lies before a window, and what lies behind it, may be left out.
use Rattle.std.proofs.Common.{ℕ, zero, suc, ◌+◌, ◌<◌, ◌≤◌, ◌≡◌, refl, sym, ◌∙◌, ap, arith, inl, inr, List, [], ◌∷◌, length, get_or, take, drop, Bool, true, false, Option, None}
use Rattle.std.specs.Prelude.{nat_le, nat_lt}
use Rattle.std.specs.List.{IsAllAdjacentAnswer, filter, filter_map}
use Rattle.std.specs.List.Sorted.{IsNonDecreasingBy, IsPartitionPoint}
use Rattle.std.specs.Bool.{OnTrue}
use Rattle.std.specs.Fn.{Called, ComputesOnPairs}
use Rattle.std.proofs.lemmas.Bool.{cases_Bool, leb-true}
use Rattle.std.proofs.lemmas.Bool.Decides.{nat_tests}
use Rattle.std.proofs.lemmas.Fn.{always_returns_same}
use Rattle.std.proofs.lemmas.List.Sorted.{IsNonDecreasingBy-from_all_adjacent}
use denote.Param.Members.{Mut}
use denote.Bor.{Bor}
use Rattle.music_base.specs.Items.{time_of}
use Rattle.music_base.specs.declared.item.Item.{Item}
use Rattle.music_base.specs.declared.item.Item.TheVariants.{Event, Message, Value}
use Rattle.port_inbox.specs.Gathering.{comes_in, found, is_in, told}
use Rattle.port_inbox.specs.declared.arrivals.InboxLink.{InboxLink}
use Rattle.port_inbox.specs.declared.window.Window.{Window}

-- ---- parts of a list

-- the first n elements fail the test
pub filter-drop : {X : Type 0} (test : X → Bool) (xs : List X) (n : ℕ) → ((k : ℕ) (d : X) → k < n → test (get_or xs k d) ≡ false) → filter test (drop n xs) ≡ filter test xs
filter-drop test xs zero h = refl
filter-drop test [] (suc n) h = refl
filter-drop test (x ∷ xs) (suc n) h = rw (h 0 x (omega arith)) (filter-drop test xs n (λ k d lt. h (suc k) d (omega arith)))

-- those from the nth on fail it
pub filter-take : {X : Type 0} (test : X → Bool) (xs : List X) (n : ℕ) → ((k : ℕ) (d : X) → n ≤ k → k < length xs → test (get_or xs k d) ≡ false) → filter test (take n xs) ≡ filter test xs
filter-take test [] zero h = refl
filter-take test [] (suc n) h = refl
filter-take test (x ∷ xs) zero h = rw (h 0 x (omega arith) (omega arith)) (filter-take test xs zero (λ k d low lt. h (suc k) d (omega arith) (omega arith)))
filter-take test (x ∷ xs) (suc n) h = elim (cases_Bool (test x)) [
  | inl passes ↦ rw passes (ap (λ ys. x ∷ ys) (filter-take test xs n (λ k d low lt. h (suc k) d (omega arith) (omega arith))))
  | inr fails ↦ rw fails (filter-take test xs n (λ k d low lt. h (suc k) d (omega arith) (omega arith)))
]

-- what fails the test gives nothing, and may be left out first
filter_map-filter : {X Y : Type 0} (test : X → Bool) (find : X → Option Y) → ((x : X) → test x ≡ false → find x ≡ None) → (xs : List X) → filter_map find (filter test xs) ≡ filter_map find xs
filter_map-filter test find none [] = refl
filter_map-filter test find none (x ∷ xs) = elim (cases_Bool (test x)) [
  | inl passes ↦ rw (passes, filter_map-filter test find none xs) refl
  | inr fails ↦ rw (fails, none x fails) (filter_map-filter test find none xs)
]

-- ---- windows

-- before a window
before_none : (window : Window) (item : Item) → nat_lt (time_of item) window.from ≡ true → comes_in window item ≡ false
before_none window (Event e) h = grind (arith, nat_tests)
before_none window (Message m) h = grind (arith, nat_tests)
before_none window (Value global value) h = refl

-- and behind it
behind_none : (window : Window) (item : Item) → nat_lt (time_of item) window.to ≡ false → comes_in window item ≡ false
behind_none window (Event e) h = grind (arith, nat_tests)
behind_none window (Message m) h = grind (arith, nat_tests)
behind_none window (Value global value) h = refl

pub part_is : (window : Window) (items : List Item) (before count : ℕ)
    → IsPartitionPoint (λ item. nat_lt (time_of item) window.from ≡ true) (λ item. nat_lt (time_of item) window.from ≡ false) items before
    → IsPartitionPoint (λ item. nat_lt (time_of item) window.to ≡ true) (λ item. nat_lt (time_of item) window.to ≡ false) (drop before items) count
    → filter (comes_in window) (take count (drop before items)) ≡ filter (comes_in window) items
part_is window items before count first second =
    filter-take (comes_in window) (drop before items) count (λ k d low lt. behind_none window (get_or (drop before items) k d) (second.1 k d low lt))
    ∙ filter-drop (comes_in window) items before (λ k d lt. before_none window (get_or items k d) (first.0 k d (omega arith) lt))

-- ---- what is found there

not_found : (window : Window) (line : ℕ) (link : InboxLink) (item : Item) → comes_in window item ≡ false → found (is_in window) line link item ≡ None
not_found window line link (Event e) h = rw h refl
not_found window line link (Message m) h = refl
not_found window line link (Value global value) h = refl

not_told : (window : Window) (link : InboxLink) (item : Item) → comes_in window item ≡ false → told (is_in window) link item ≡ None
not_told window link (Event e) h = refl
not_told window link (Message m) h = rw h refl
not_told window link (Value global value) h = refl

pub all_found : (window : Window) (line : ℕ) (link : InboxLink) (part items : List Item) → filter (comes_in window) part ≡ filter (comes_in window) items
    → filter_map (found (is_in window) line link) part ≡ filter_map (found (is_in window) line link) items
all_found window line link part items same =
    sym (filter_map-filter (comes_in window) (found (is_in window) line link) (not_found window line link) part)
    ∙ ap (filter_map (found (is_in window) line link)) same ∙ filter_map-filter (comes_in window) (found (is_in window) line link) (not_found window line link) items

pub all_told : (window : Window) (link : InboxLink) (part items : List Item) → filter (comes_in window) part ≡ filter (comes_in window) items
    → filter_map (told (is_in window) link) part ≡ filter_map (told (is_in window) link) items
all_told window link part items same =
    sym (filter_map-filter (comes_in window) (told (is_in window) link) (not_told window link) part) ∙ ap (filter_map (told (is_in window) link)) same
    ∙ filter_map-filter (comes_in window) (told (is_in window) link) (not_told window link) items

-- ---- the test of times that never fall

pub climbs_answer : {F : Type 0} (g : Mut F (Bor Item × (Bor Item × Unit {0})) Bool) (f : F) (items : List Item) (r : Bool)
    → ((e : Item → Item → Bool) → ComputesOnPairs g e f → IsAllAdjacentAnswer (λ x y b. b ≡ e x y) items r)
    → ((a : Bor Item × (Bor Item × Unit {0})) (b : Bool) (f' : F) → Called g f a b f' → (b ≡ nat_le (time_of a.0.now) (time_of a.1.0.now)) × (f' ≡ f))
    → OnTrue r (IsNonDecreasingBy time_of items)
climbs_answer g f items r answers calls =
    go r (answers (λ x y. nat_le (time_of x) (time_of y)) (always_returns_same g (λ a b. b ≡ nat_le (time_of a.0.now) (time_of a.1.0.now)) f calls))
  where
    go : (b : Bool) → IsAllAdjacentAnswer (λ x y z. z ≡ nat_le (time_of x) (time_of y)) items b → OnTrue b (IsNonDecreasingBy time_of items)
    go true h = IsNonDecreasingBy-from_all_adjacent time_of items (λ k d lt. leb-true (time_of (get_or items k d)) (time_of (get_or items (k + 1) d)) (sym (h k d lt)))
    go false h = tt

-- Values by the places of their indices.
use Rattle.std.proofs.Common.{ℕ, zero, suc, ◌+◌, ◌<◌, ◌≤◌, ◌≡◌, pos, true, false, nat_eq, List, [], ◌∷◌, ◌++◌, length, get_or, take, refl, sym, ◌∙◌, inl, inr, arith}
use Rattle.std.specs.Prelude.{◌==◌}
use Rattle.std.specs.List.{list_any, position, position_or_len}
use Rattle.std.proofs.lemmas.Bool.{cases_lt, eqb-true, eq-eqb, ne_eqb, lt-ltb, le-ltb, or_parts}
use Rattle.std.proofs.lemmas.List.{take_more}
use Rattle.std.proofs.lemmas.List.Sums.{passes_at_first}
use Rattle.music_base.specs.Items.{AreValues}
use Rattle.music_base.specs.declared.item.Item.{Item}
use Rattle.music_base.specs.declared.item.Item.TheVariants.{Event, Value, Message}
use Rattle.music_base.proofs.FirstPlaces.{is_found}
use Rattle.scene_model.specs.Tables.{value_in}
use Rattle.port_inbox.specs.KeptSamples.{AscendFrom, is_value_of}
use Rattle.port_inbox.specs.Samples.{IsPlaceOf, value_of}

-- ---- one value for each index

pub values-length : (gs : List ℕ) (items : List Item) → AreValues gs items → length items ≡ length gs
values-length [] [] h = refl
values-length [] (item ∷ items) h = absurd h
values-length (g ∷ gs) [] h = absurd h
values-length (g ∷ gs) (Value global value ∷ items) h = omega (arith, values-length gs items h.1)
values-length (g ∷ gs) (Event e ∷ items) h = absurd h
values-length (g ∷ gs) (Message m ∷ items) h = absurd h

one_value : (item : Item) (g : ℕ) → is_value_of item g ≡ true → AreValues (g ∷ []) (item ∷ [])
one_value (Value global value) g is = (eqb-true global g is, tt)
one_value (Event e) g is = absurd cc
one_value (Message m) g is = absurd cc

values-push : (gs : List ℕ) (items : List Item) (g : ℕ) (item : Item) → AreValues gs items → is_value_of item g ≡ true → AreValues (gs ++ g ∷ []) (items ++ item ∷ [])
values-push [] [] g item h is = one_value item g is
values-push [] (x ∷ items) g item h is = absurd h
values-push (x ∷ gs) [] g item h is = absurd h
values-push (x ∷ gs) (Value global value ∷ items) g item h is = (h.0, values-push gs items g item h.1 is)
values-push (x ∷ gs) (Event e ∷ items) g item h is = absurd h
values-push (x ∷ gs) (Message m ∷ items) g item h is = absurd h

-- from one place to the next
pub values-next : (gs : List ℕ) (items : List Item) (i : ℕ) (item : Item) → i < length gs → length items ≡ length gs → item ≡ get_or items i item → is_value_of item (get_or gs i 0) ≡ true
    → AreValues (take i gs) (take i items) → AreValues (take (i + 1) gs) (take (i + 1) items)
values-next gs items i item lt sized at is h =
    rw (take_more gs i 0 lt, take_more items i item (omega arith), ← at) (values-push (take i gs) (take i items) (get_or gs i 0) item h is)

-- ---- by places

later : (low : ℕ) (gs : List ℕ) (i : ℕ) → AscendFrom low gs → i < length gs → low ≤ get_or gs i 0
later low [] i up lt = absurd (omega arith)
later low (x ∷ gs) zero up lt = up.0
later low (x ∷ gs) (suc i) up lt = omega (arith, later (x + 1) gs i up.1 (omega arith), up.0)

pub value-at : (low : ℕ) (gs : List ℕ) (items : List Item) (g i : ℕ) (d : Item) → AreValues gs items → AscendFrom low gs → i < length gs → get_or gs i 0 ≡ g → value_of (get_or items i d) ≡ value_in items g
value-at low [] items g i d h up lt at = absurd (omega arith)
value-at low (x ∷ gs) [] g i d h up lt at = absurd h
value-at low (x ∷ gs) (Event e ∷ items) g i d h up lt at = absurd h
value-at low (x ∷ gs) (Message m ∷ items) g i d h up lt at = absurd h
value-at low (x ∷ gs) (Value global value ∷ items) g zero d h up lt at = rw (eq-eqb global g (h.0 ∙ at)) refl
value-at low (x ∷ gs) (Value global value ∷ items) g (suc i) d h up lt at =
    let above = later (x + 1) gs i up.1 (omega arith) in
    let other : nat_eq global g ≡ false = ne_eqb global g (λ same. omega (arith, same, h.0, at, above)) in
    rw other (value-at (x + 1) gs items g i d h.1 up.1 (omega arith) at)

pub value-nowhere : (gs : List ℕ) (items : List Item) (g : ℕ) → AreValues gs items → list_any (λ i. i == g) gs ≡ false → pos 0 ≡ value_in items g
value-nowhere [] [] g h none = refl
value-nowhere [] (item ∷ items) g h none = absurd h
value-nowhere (x ∷ gs) [] g h none = refl
value-nowhere (x ∷ gs) (Event e ∷ items) g h none = absurd h
value-nowhere (x ∷ gs) (Message m ∷ items) g h none = absurd h
value-nowhere (x ∷ gs) (Value global value ∷ items) g h none =
    let parts = or_parts (x == g) (list_any (λ i. i == g) gs) none in
    let other : nat_eq global g ≡ false = rw (← h.0) at parts.0 in
    rw other (value-nowhere gs items g h.1 parts.1)

-- ---- the first place

pub first_place-is : (xs : List ℕ) (g : ℕ) → IsPlaceOf xs g (position (λ i. i == g) xs)
first_place-is xs g = elim (cases_lt (position_or_len (λ i. i == g) xs) (length xs)) [
  | inl lt ↦ rw (lt-ltb (position_or_len (λ i. i == g) xs) (length xs) lt) (lt, eqb-true _ g (passes_at_first (λ i. i == g) xs 0 lt))
  | inr ge ↦ rw (le-ltb (position_or_len (λ i. i == g) xs) (length xs) ge) (sym (is_found (λ i. i == g) xs) ∙ le-ltb (position_or_len (λ i. i == g) xs) (length xs) ge)
]

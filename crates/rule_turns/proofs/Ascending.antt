-- Values of which the indices ascend.
use Rattle.std.proofs.Common.{◌≡◌, ℕ, zero, suc, ◌+◌, ◌<◌, ◌≤◌, true, false, List, [], ◌∷◌, ◌++◌, length, get_or, drop, take, set, add-one, append_assoc, unwrap_or, refl, sym, ap, ◌∙◌, inl, inr, arith, ℤ, pos, Option, Some, None}
use Rattle.std.specs.Prelude.{slice_get, ◌==◌, if◌then◌else◌, option_map}
use Rattle.std.proofs.lemmas.Bool.{cases_Bool, cases_eq, eq-eqb, ne_eqb}
use Rattle.std.proofs.Math.Seq.{take-suc, take-suc-set}
use Rattle.std.proofs.lemmas.List.{at_drop_all, drop-set-lt}
use Rattle.music_base.specs.Items.{AreValues}
use Rattle.music_base.specs.declared.item.Item.{Item}
use Rattle.music_base.specs.declared.item.Item.TheVariants.{Event, Value, Message}
use Rattle.music_base.proofs.Gathered.{drop_next}
use Rattle.index_maps.proofs.Ascending.{Ascends}
use Rattle.scene_model.proofs.ProperLives.{are_values}
use Rattle.rule_turns.specs.OneRule.{copied, found_value, scaled}
use Rattle.rule_turns.specs.Plans.{index_place}
use Rattle.rule_turns.specs.Turning.{AreAscending, overlay, value_of, zeros}

-- ---- from ascending indices

pub ascending-values : (least : ℕ) (gs : List ℕ) (items : List Item) → Ascends least gs → AreValues gs items → AreAscending least items
ascending-values least [] [] up are = tt
ascending-values least [] (_ ∷ _) up are = absurd are
ascending-values least (g ∷ gs) [] up are = absurd are
ascending-values least (g ∷ gs) (Value global value ∷ items) up are =
    let at : global ≡ g = are.0 in
    rw at (up.0, ascending-values (g + 1) gs items up.1 are.1)
ascending-values least (g ∷ gs) (Event e ∷ items) up are = absurd are
ascending-values least (g ∷ gs) (Message m ∷ items) up are = absurd are

pub values-zeros : (gs : List ℕ) → AreValues gs (zeros gs)
values-zeros gs = are_values (λ g. pos 0) gs

-- ---- after an overlay

pub values-overlay : (f : ℕ → Option ℤ) (gs : List ℕ) (items : List Item) → AreValues gs items → AreValues gs (overlay f items)
values-overlay f [] [] are = tt
values-overlay f [] (_ ∷ _) are = absurd are
values-overlay f (g ∷ gs) [] are = absurd are
values-overlay f (g ∷ gs) (Value global value ∷ items) are = (are.0, values-overlay f gs items are.1)
values-overlay f (g ∷ gs) (Event e ∷ items) are = absurd are
values-overlay f (g ∷ gs) (Message m ∷ items) are = absurd are

pub ascending-overlay : (f : ℕ → Option ℤ) (least : ℕ) (items : List Item) → AreAscending least items → AreAscending least (overlay f items)
ascending-overlay f least [] up = tt
ascending-overlay f least (Value global value ∷ items) up = (up.0, ascending-overlay f (global + 1) items up.1)
ascending-overlay f least (Event e ∷ items) up = absurd up
ascending-overlay f least (Message m ∷ items) up = absurd up

-- nothing is given
pub overlay-none : (f : ℕ → Option ℤ) (items : List Item) → ((g : ℕ) → f g ≡ None) → items ≡ overlay f items
overlay-none f [] none = refl
overlay-none f (Value global value ∷ items) none = rw (none global, ← overlay-none f items none) refl
overlay-none f (Event e ∷ items) none = ap (λ (rest : List Item). Event e ∷ rest) (overlay-none f items none)
overlay-none f (Message m ∷ items) none = ap (λ (rest : List Item). Message m ∷ rest) (overlay-none f items none)

-- one value further: the one that is given is written
pub overlay-write : (f : ℕ → Option ℤ) (items : List Item) (i g : ℕ) (v w : ℤ) (d : Item) → i < length items → get_or items i d ≡ Value g v → unwrap_or (f g) v ≡ w
    → take i items ++ overlay f (drop i items) ≡ take (i + 1) (set items i (Value g w)) ++ overlay f (drop (i + 1) (set items i (Value g w)))
overlay-write f items i g v w d lt is given =
    rw (drop_next items i d lt, is, given, add-one, take-suc-set items i (Value g w) lt, drop-set-lt (suc i) items i (Value g w) (omega arith), append_assoc) refl

-- and where none is given, the value stays
pub overlay-keep : (f : ℕ → Option ℤ) (items : List Item) (i g : ℕ) (v : ℤ) (d : Item) → i < length items → get_or items i d ≡ Value g v → f g ≡ None
    → take i items ++ overlay f (drop i items) ≡ take (i + 1) items ++ overlay f (drop (i + 1) items)
overlay-keep f items i g v d lt is none = rw (drop_next items i d lt, is, none, add-one, take-suc items i d lt, is, append_assoc) refl

-- what follows a value ascends from behind it
pub ascending-next : (least : ℕ) (items : List Item) (i g : ℕ) (v : ℤ) (d : Item) → i < length items → get_or items i d ≡ Value g v → AreAscending least (drop i items)
    → (least ≤ g) × AreAscending (g + 1) (drop (i + 1) items)
ascending-next least items i g v d lt is up =
    let whole : AreAscending least (get_or items i d ∷ drop (i + 1) items) = rw (drop_next items i d lt) at up in
    rw is at whole

-- also where it is written
pub ascending-written : (items : List Item) (i g : ℕ) (v w : ℤ) → i < length items → AreAscending (g + 1) (drop (i + 1) items)
    → AreAscending (g + 1) (drop (i + 1) (set items i (Value g w)))
ascending-written items i g v w lt up = rw (drop-set-lt (i + 1) items i (Value g w) (omega arith)) up

-- and each of them is a value
is_some_value : (least : ℕ) (item : Item) (items : List Item) → AreAscending least (item ∷ items) → ((g : ℕ) (v : ℤ) → item ≡ Value g v → ⊥) → ⊥
is_some_value least (Value g v) items up none = none g v refl
is_some_value least (Event e) items up none = up
is_some_value least (Message m) items up none = up

pub ascending-value : (least : ℕ) (items : List Item) (i : ℕ) (d : Item) → i < length items → AreAscending least (drop i items)
    → ((g : ℕ) (v : ℤ) → get_or items i d ≡ Value g v → ⊥) → ⊥
ascending-value least items i d lt up none =
    let whole : AreAscending least (get_or items i d ∷ drop (i + 1) items) = rw (drop_next items i d lt) at up in
    is_some_value least (get_or items i d) (drop (i + 1) items) whole none

-- what is copied is what is found, scaled
pub copied-found : (numerator : ℤ) (denominator : ℕ) (add : ℤ) (block : List Item) (g : ℕ) (found : Option ℤ) → found_value block g ≡ found
    → copied numerator denominator add block g ≡ option_map (scaled numerator denominator add) found
unfolding copied
copied-found numerator denominator add block g found is = rw is refl

-- ---- one value at its place

-- an index that is too low is not there
overlay-low : (index : ℕ) (v : ℤ) (least : ℕ) (items : List Item) → index < least → AreAscending least items
    → items ≡ overlay (λ g. if index == g then Some v else None) items
overlay-low index v least [] lt up = refl
overlay-low index v least (Value global value ∷ items) lt up =
    let first : least ≤ global = up.0 in
    let other : (index == global) ≡ false = ne_eqb index global (λ e. absurd (omega (arith, e))) in
    rw (other, ← overlay-low index v (global + 1) items (omega arith) up.1) refl
overlay-low index v least (Event e ∷ items) lt up = absurd up
overlay-low index v least (Message m ∷ items) lt up = absurd up

pub overlay-set : (index : ℕ) (v : ℤ) (least : ℕ) (gs : List ℕ) (items : List Item) → AreAscending least items → AreValues gs items
    → set items (index_place gs index) (Value index v) ≡ overlay (λ g. if index == g then Some v else None) items
overlay-set index v least [] [] up are = refl
overlay-set index v least [] (_ ∷ _) up are = absurd are
overlay-set index v least (g ∷ gs) [] up are = absurd are
overlay-set index v least (g ∷ gs) (Value global value ∷ items) up are =
    let at : global ≡ g = are.0 in
    elim (cases_eq g index) [
      | inl is ↦
          let here : (g == index) ≡ true = rw is (ne_or_same index) in
          let there : (index == global) ≡ true = rw (at, is) (ne_or_same index) in
          rw (here, there, at ∙ is) (ap (λ (rest : List Item). Value index v ∷ rest) (overlay-low index v (global + 1) items (omega (arith, at, is)) up.1))
      | inr differs ↦
          let here : (g == index) ≡ false = ne_eqb g index differs in
          let there : (index == global) ≡ false = ne_eqb index global (λ e. differs (sym at ∙ sym e)) in
          let next : 1 + index_place gs index ≡ suc (index_place gs index) = omega arith in
          rw (here, there, next) (ap (λ (rest : List Item). Value global value ∷ rest) (overlay-set index v (global + 1) gs items up.1 are.1))
    ]
  where
    ne_or_same : (n : ℕ) → (n == n) ≡ true
    ne_or_same n = eq-eqb n n refl
overlay-set index v least (g ∷ gs) (Event e ∷ items) up are = absurd are
overlay-set index v least (g ∷ gs) (Message m ∷ items) up are = absurd are

-- the value of an index stands at its place
pub found_value-place : (gs : List ℕ) (items : List Item) (g : ℕ) → AreValues gs items → value_of g (slice_get items (index_place gs g)) ≡ found_value items g
found_value-place [] [] g are = refl
found_value-place [] (_ ∷ _) g are = absurd are
found_value-place (x ∷ gs) [] g are = absurd are
found_value-place (x ∷ gs) (Value global value ∷ items) g are =
    let at : global ≡ x = are.0 in
    elim (cases_Bool (x == g)) [
      | inl t ↦ rw (at, t) (rw t refl)
      | inr f ↦ let next : 1 + index_place gs g ≡ suc (index_place gs g) = omega arith in rw (at, f, next) (found_value-place gs items g are.1)
    ]
found_value-place (x ∷ gs) (Event e ∷ items) g are = absurd are
found_value-place (x ∷ gs) (Message m ∷ items) g are = absurd are

-- ---- from a place on

found_value-low : (g least : ℕ) (items : List Item) → g < least → AreAscending least items → found_value items g ≡ None
found_value-low g least [] lt up = refl
found_value-low g least (Value global value ∷ items) lt up =
    let first : least ≤ global = up.0 in
    let other : (global == g) ≡ false = ne_eqb global g (λ e. absurd (omega (arith, e))) in
    rw other (found_value-low g (global + 1) items (omega arith) up.1)
found_value-low g least (Event e ∷ items) lt up = absurd up
found_value-low g least (Message m ∷ items) lt up = absurd up

-- the value that stands at a place is found from there on
pub found_value-here : (g : ℕ) (v : ℤ) (block : List Item) (place : ℕ) (d : Item) → place < length block → get_or block place d ≡ Value g v
    → found_value (drop place block) g ≡ Some v
found_value-here g v block place d lt is = let same : (g == g) ≡ true = eq-eqb g g refl in rw (drop_next block place d lt, is, same) refl

-- and no other index
pub found_value-next : (h g : ℕ) (v : ℤ) (block : List Item) (place : ℕ) (d : Item) → place < length block → get_or block place d ≡ Value h v → h < g
    → found_value (drop place block) g ≡ found_value (drop (place + 1) block) g
found_value-next h g v block place d lt is below =
    let other : (h == g) ≡ false = ne_eqb h g (λ e. absurd (omega (arith, e))) in
    rw (drop_next block place d lt, is, other) refl

-- an item that is no value has no index
no_value : (g : ℕ) (item : Item) (items : List Item) → ((h : ℕ) (v : ℤ) → item ≡ Value h v → ⊥) → found_value (item ∷ items) g ≡ found_value items g
no_value g (Value h v) items none = absurd (none h v refl)
no_value g (Event e) items none = refl
no_value g (Message m) items none = refl

pub found_value-none : (g : ℕ) (block : List Item) (place : ℕ) (d : Item) → place < length block → ((h : ℕ) (v : ℤ) → get_or block place d ≡ Value h v → ⊥)
    → found_value (drop place block) g ≡ found_value (drop (place + 1) block) g
found_value-none g block place d lt none = rw (drop_next block place d lt) (no_value g (get_or block place d) (drop (place + 1) block) none)

-- where a higher index stands first, a lower one is not there any more
pub found_value-above : (index least : ℕ) (block : List Item) (place h : ℕ) (v : ℤ) (d : Item) → place < length block → AreAscending least block
    → get_or block place d ≡ Value h v → index < h → found_value (drop place block) index ≡ None
found_value-above index least [] place h v d lt up is low = absurd (omega arith)
found_value-above index least (item ∷ items) zero h v d lt up is low =
    let whole : AreAscending least (Value h v ∷ items) = rw is at up in
    rw is (found_value-low index h (Value h v ∷ items) low (omega arith, whole.1))
found_value-above index least (Value global value ∷ items) (suc place) h v d lt up is low = found_value-above index (global + 1) items place h v d (omega arith) up.1 is low
found_value-above index least (Event e ∷ items) (suc place) h v d lt up is low = absurd up
found_value-above index least (Message m ∷ items) (suc place) h v d lt up is low = absurd up

-- nothing stands past the end
pub found_value-past : (g : ℕ) (block : List Item) (place : ℕ) → length block ≤ place → found_value (drop place block) g ≡ None
found_value-past g block place past = at_drop_all (λ (items : List Item). found_value items g) block place past

-- What the uses of a continuous port give is what the last rule for each index gives.
use Rattle.std.proofs.Common.{ℕ, ◌≡◌, ◌+◌, List, [], ◌∷◌, length, drop, map, refl, ap, ◌∙◌, Bool, true, false, inl, inr, Option, Some, None, unwrap_or, ℤ, pos}
use Rattle.std.specs.Prelude.{slice_get, if◌then◌else◌, ◌==◌, option_map, ⊤}
use Rattle.std.specs.List.{filter_map, last_or, list_any, AllByRecursion, cons_option}
use Rattle.std.proofs.lemmas.Bool.{cases_Bool}
use Rattle.music_base.specs.Items.{AreValues}
use Rattle.music_base.specs.declared.item.Item.{Item}
use Rattle.music_base.specs.declared.item.Item.TheVariants.{Event, Value, Message}
use Rattle.music_base.proofs.Gathered.{rest_has, rest_on}
use Rattle.music_base.proofs.Lists.{map-agree}
use Rattle.index_maps.specs.Maps.{maps_index, indices}
use Rattle.index_maps.proofs.Ascending.{has-indices}
use Rattle.scene_model.specs.Tables.{value_in}
use Rattle.scene_model.specs.Turns.{Moment, given, input_items, map_named, same_name, target_of, value_given}
use Rattle.scene_model.specs.declared.rule.Rule.{Rule}
use Rattle.scene_model.specs.declared.rule.Rule.TheVariants.{EmitAt, EmitEvery, Pass, SetValue, Ramp, CopyValues, When, Say, Reply}
use Rattle.rule_turns.specs.declared.plan.RuleUse.{RuleUse}
use Rattle.rule_turns.specs.OneRule.{copied, found_value, gives, scaled, source_of}
use Rattle.rule_turns.specs.Plans.{use_of, uses_from, when_count}
use Rattle.rule_turns.specs.Turning.{Step, overlaid, overlay, step_in, use_gives, zeros}
use Rattle.rule_turns.proofs.Looking.{items_named-place}

-- ---- the value that a block has

found_value-is : (gs : List ℕ) (items : List Item) (g : ℕ) → AreValues gs items
    → found_value items g ≡ (if list_any (λ i. i == g) gs then Some (value_in items g) else None)
found_value-is [] [] g are = refl
found_value-is [] (_ ∷ _) g are = absurd are
found_value-is (x ∷ gs) [] g are = absurd are
found_value-is (x ∷ gs) (Value global value ∷ items) g are =
    let at : global ≡ x = are.0 in
    elim (cases_Bool (x == g)) [ inl t ↦ rw (at, t) refl | inr f ↦ rw (at, f) (found_value-is gs items g are.1) ]
found_value-is (x ∷ gs) (Event e ∷ items) g are = absurd are
found_value-is (x ∷ gs) (Message m ∷ items) g are = absurd are

-- ---- one rule

-- the input of a rule that copies has a value for each index that it maps
abbrev pub HasBlock : Moment → Rule → Type 0
HasBlock m (CopyValues input _ _ _ _) = AreValues (indices (map_named m input)) (input_items m input)
HasBlock m _ = ⊤

-- a value that is copied, where its index is mapped
option_map-if : (o : Option ℤ) (b : Bool) (x : ℤ) (f : ℤ → ℤ) → o ≡ (if b then Some x else None) → (if b then Some (f x) else None) ≡ option_map f o
option_map-if o true x f e = rw e refl
option_map-if o false x f e = rw e refl

given-is : (m : Moment) (g : ℕ) (rule : Rule) → HasBlock m rule → given m g rule ≡ gives (input_items m (source_of rule)) m.step rule g
unfolding gives copied scaled
given-is m g (EmitAt _ _ _) h = refl
given-is m g (EmitEvery _ _ _ _) h = refl
given-is m g (Pass _ _ _ _) h = refl
given-is m g (SetValue _ _ _) h = refl
given-is m g (Ramp _ _ _ _) h = refl
given-is m g (CopyValues input _ numerator denominator add) h =
    let items : List Item = input_items m input in
    let found : found_value items g ≡ (if maps_index (map_named m input) g then Some (value_in items g) else None) =
    rw (← has-indices g (map_named m input)) (found_value-is (indices (map_named m input)) items g h) in
    option_map-if (found_value items g) (maps_index (map_named m input) g) (value_in items g) (scaled numerator denominator add) found
given-is m g (When _ _ _ _ _) h = refl
given-is m g (Say _ _ _ _) h = refl
given-is m g (Reply _ _ _) h = refl

-- other rules than those of values give nothing
pub gives-none : (items : List Item) (step : ℕ) (rule : Rule)
    → ((port : List ℕ) (index : ℕ) (value : ℤ) → rule ≡ SetValue port index value → ⊥)
    → ((port : List ℕ) (index : ℕ) (start by : ℤ) → rule ≡ Ramp port index start by → ⊥)
    → ((input output : List ℕ) (numerator : ℤ) (denominator : ℕ) (add : ℤ) → rule ≡ CopyValues input output numerator denominator add → ⊥)
    → (g : ℕ) → gives items step rule g ≡ None
unfolding gives
gives-none items step (EmitAt _ _ _) set ramp copy g = refl
gives-none items step (EmitEvery _ _ _ _) set ramp copy g = refl
gives-none items step (Pass _ _ _ _) set ramp copy g = refl
gives-none items step (SetValue port index value) set ramp copy g = absurd (set port index value refl)
gives-none items step (Ramp port index start by) set ramp copy g = absurd (ramp port index start by refl)
gives-none items step (CopyValues input output numerator denominator add) set ramp copy g = absurd (copy input output numerator denominator add refl)
gives-none items step (When _ _ _ _ _) set ramp copy g = refl
gives-none items step (Say _ _ _ _) set ramp copy g = refl
gives-none items step (Reply _ _ _) set ramp copy g = refl

-- ---- one use after another

-- the last value that is given, and otherwise the one before
abbrev last_given : {U : Type 0} → (U → Option ℤ) → List U → ℤ → ℤ
last_given f [] value = value
last_given f (u ∷ us) value = last_given f us (unwrap_or (f u) value)

overlay-each : (f : ℕ → Option ℤ) (h : ℕ → ℤ) (gs : List ℕ) → overlay f (map (λ g. Value g (h g)) gs) ≡ map (λ g. Value g (unwrap_or (f g) (h g))) gs
overlay-each f h [] = refl
overlay-each f h (g ∷ gs) = ap (λ (items : List Item). Value g (unwrap_or (f g) (h g)) ∷ items) (overlay-each f h gs)

overlaid-each : (s : Step) (gs : List ℕ) (us : List RuleUse) (h : ℕ → ℤ)
    → overlaid s us (map (λ g. Value g (h g)) gs) ≡ map (λ g. Value g (last_given (λ u. use_gives s u g) us (h g))) gs
overlaid-each s gs [] h = refl
overlaid-each s gs (u ∷ us) h =
    ap (overlaid s us) (overlay-each (use_gives s u) h gs) ∙ overlaid-each s gs us (λ g. unwrap_or (use_gives s u g) (h g))

last_given-is : {U : Type 0} (f : U → Option ℤ) (us : List U) (before : Option ℤ) (value : ℤ)
    → last_given f us (unwrap_or before value) ≡ unwrap_or (last_or before (filter_map f us)) value
last_given-is f [] before value = refl
last_given-is f (u ∷ us) before value = step (f u) (λ p. last_given-is f us p value)
  where
    step : (p : Option ℤ) → ((q : Option ℤ) → last_given f us (unwrap_or q value) ≡ unwrap_or (last_or q (filter_map f us)) value)
        → last_given f us (unwrap_or p (unwrap_or before value)) ≡ unwrap_or (last_or before (cons_option p (filter_map f us))) value
    step None later = later before
    step (Some x) later = later (Some x)

-- ---- the uses of a port

module _ (rules : List Rule) (state : List Bool) (m : Moment) (each : length m.inputs ≡ length m.ports) where
  -- one use gives what its rule gives
  use_gives-is : (written : List ℕ) (g r k : ℕ) (rule : Rule) → HasBlock m rule → slice_get rules r ≡ Some rule
      → use_gives (step_in rules state m) (use_of m.ports written r k rule) g ≡ given m g rule
  unfolding step_in
  use_gives-is written g r k rule block at = rw (at, given-is m g rule block, items_named-place m.ports m.inputs (source_of rule) each) refl

  uses_give : (written name : List ℕ) (g : ℕ) (rest : List Rule) (r k : ℕ) → AllByRecursion (HasBlock m) rest → drop r rules ≡ rest
      → filter_map (λ u. use_gives (step_in rules state m) u g) (uses_from m.ports written name r k rest)
      ≡ filter_map (λ rule. if same_name (target_of rule) name then given m g rule else None) rest
  uses_give written name g [] r k blocks e = refl
  uses_give written name g (rule ∷ rest) r k blocks e =
      let later = uses_give written name g rest (r + 1) (k + when_count rule) blocks.1 (rest_on rules r rule rest e) in
      let here = use_gives-is written g r k rule blocks.0 (rest_has rules r rule rest e) in
      elim (cases_Bool (same_name (target_of rule) name)) [
        | inl t ↦ rw (t, here, later) refl
        | inr f ↦ rw (f, later) refl
      ]

  -- the values of a continuous port
  pub values_given : (name gs : List ℕ) → AllByRecursion (HasBlock m) rules
      → overlaid (step_in rules state m) (uses_from m.ports gs name 0 0 rules) (zeros gs) ≡ map (λ g. Value g (value_given m rules name g)) gs
  values_given name gs blocks =
      let s : Step = step_in rules state m in
      let us : List RuleUse = uses_from m.ports gs name 0 0 rules in
      let same : (g : ℕ) → Value g (last_given (λ u. use_gives s u g) us (pos 0)) ≡ Value g (value_given m rules name g) =
      λ (g : ℕ). ap (λ (x : ℤ). Value g x) (last_given-is (λ u. use_gives s u g) us None (pos 0)
      ∙ ap (λ (vs : List ℤ). unwrap_or (last_or None vs) (pos 0)) (uses_give gs name g rules 0 0 blocks refl)) in
      overlaid-each s gs us (λ _. pos 0) ∙ map-agree _ _ same gs

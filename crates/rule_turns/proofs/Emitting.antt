-- What the uses of a port emit is what all rules emit on it.
use Rattle.std.proofs.Common.{ℕ, ◌≡◌, ◌+◌, List, [], ◌∷◌, ◌++◌, length, get_or, drop, arith, refl, ap, ◌∙◌, Bool, false, inl, inr, add-one, add-zero, Some}
use Rattle.std.specs.Prelude.{slice_get}
use Rattle.std.specs.List.{flat_map}
use Rattle.std.proofs.lemmas.Bool.{cases_lt, cases_Bool}
use Rattle.std.proofs.Math.Seq.{drop-cons}
use Rattle.std.proofs.lemmas.List.{get_or_past, drop_all}
use Rattle.music_base.specs.declared.item.Item.{Item}
use Rattle.music_base.proofs.Gathered.{rest_has, rest_on}
use Rattle.scene_model.specs.Turns.{Moment, clock_of, end_of, emitted, emissions, input_items, map_named, same_name, target_of, with_state}
use Rattle.scene_model.specs.declared.rule.Rule.{Rule}
use Rattle.scene_model.specs.declared.rule.Rule.TheVariants.{EmitAt, EmitEvery, Pass, SetValue, Ramp, CopyValues, When, Say, Reply}
use Rattle.rule_turns.specs.OneRule.{emits, source_of}
use Rattle.rule_turns.specs.Plans.{use_of, uses_from, when_count}
use Rattle.rule_turns.specs.Turning.{step_in, use_emits}
use Rattle.rule_turns.proofs.Looking.{items_named-place, name_is}

-- ---- one rule

-- over its input's items and its output's map
emitted-is : (m : Moment) (rule : Rule) (was : Bool)
    → emitted m rule was ≡ emits (map_named m (target_of rule)) (input_items m (source_of rule)) (clock_of m) (end_of m) was rule
unfolding emits
emitted-is m (EmitAt _ _ _) was = refl
emitted-is m (EmitEvery _ _ _ _) was = refl
emitted-is m (Pass _ _ _ _) was = refl
emitted-is m (SetValue _ _ _) was = refl
emitted-is m (Ramp _ _ _ _) was = refl
emitted-is m (CopyValues _ _ _ _ _) was = refl
emitted-is m (When _ _ _ _ _) was = refl
emitted-is m (Say _ _ _ _) was = refl
emitted-is m (Reply _ _ _) was = refl

-- only a `when` rule has a truth value
abbrev was_of : Rule → Bool → Bool
was_of (When _ _ _ _ _) b = b
was_of _ b = false

emitted-was_of : (m : Moment) (rule : Rule) (b : Bool) → emitted m rule (was_of rule b) ≡ emitted m rule b
emitted-was_of m (EmitAt _ _ _) b = refl
emitted-was_of m (EmitEvery _ _ _ _) b = refl
emitted-was_of m (Pass _ _ _ _) b = refl
emitted-was_of m (SetValue _ _ _) b = refl
emitted-was_of m (Ramp _ _ _ _) b = refl
emitted-was_of m (CopyValues _ _ _ _ _) b = refl
emitted-was_of m (When _ _ _ _ _) b = refl
emitted-was_of m (Say _ _ _ _) b = refl
emitted-was_of m (Reply _ _ _) b = refl

-- the truth values from number k on, dealt out to a rule and to those after it
with_state-next : (rule : Rule) (rest : List Rule) (state : List Bool) (k : ℕ)
    → with_state (rule ∷ rest) (drop k state) ≡ (rule, was_of rule (get_or state k false)) ∷ with_state rest (drop (k + when_count rule) state)
with_state-next (EmitAt _ _ _) rest state k = rw add-zero refl
with_state-next (EmitEvery _ _ _ _) rest state k = rw add-zero refl
with_state-next (Pass _ _ _ _) rest state k = rw add-zero refl
with_state-next (SetValue _ _ _) rest state k = rw add-zero refl
with_state-next (Ramp _ _ _ _) rest state k = rw add-zero refl
with_state-next (CopyValues _ _ _ _ _) rest state k = rw add-zero refl
with_state-next (When _ _ _ _ _) rest state k = elim (cases_lt k (length state)) [
  | inl lt ↦ rw (drop-cons state k false lt, add-one) refl
  | inr past ↦
      let none : drop k state ≡ [] = drop_all k state past in
      let later : drop (k + 1) state ≡ [] = drop_all (k + 1) state (omega arith) in
      rw (none, later, get_or_past state k false past) refl
]
with_state-next (Say _ _ _ _) rest state k = rw add-zero refl
with_state-next (Reply _ _ _) rest state k = rw add-zero refl

-- ---- the uses of a port

module _ (rules : List Rule) (state : List Bool) (m : Moment) (each : length m.inputs ≡ length m.ports) where
  -- one use emits what its rule emits
  use_emits-is : (written : List ℕ) (r k : ℕ) (rule : Rule) → slice_get rules r ≡ Some rule
      → use_emits (step_in rules state m) (map_named m (target_of rule)) (use_of m.ports written r k rule) ≡ emitted m rule (was_of rule (get_or state k false))
  unfolding step_in
  use_emits-is written r k rule at =
      rw (at, emitted-was_of m rule (get_or state k false), emitted-is m rule (get_or state k false), items_named-place m.ports m.inputs (source_of rule) each) refl

  -- the uses of a name, of rules from number r on
  pub uses_emit : (written name : List ℕ) (rest : List Rule) (r k : ℕ) → drop r rules ≡ rest
      → flat_map (use_emits (step_in rules state m) (map_named m name)) (uses_from m.ports written name r k rest) ≡ emissions m (with_state rest (drop k state)) name
  uses_emit written name [] r k e = refl
  uses_emit written name (rule ∷ rest) r k e =
      let emit = use_emits (step_in rules state m) (map_named m name) in
      let was : Bool = was_of rule (get_or state k false) in
      let later : flat_map emit (uses_from m.ports written name (r + 1) (k + when_count rule) rest) ≡ emissions m (with_state rest (drop (k + when_count rule) state)) name =
      uses_emit written name rest (r + 1) (k + when_count rule) (rest_on rules r rule rest e) in
      rw (with_state-next rule rest state k) (elim (cases_Bool (same_name (target_of rule) name)) [
        | inl t ↦
            let is : target_of rule ≡ name = name_is (target_of rule) name t in
            let here : emit (use_of m.ports written r k rule) ≡ emitted m rule was = rw is at (use_emits-is written r k rule (rest_has rules r rule rest e)) in
            rw t (ap (λ (front : List Item). front ++ flat_map emit (uses_from m.ports written name (r + 1) (k + when_count rule) rest)) here
            ∙ ap (λ (back : List Item). emitted m rule was ++ back) later)
        | inr f ↦ rw f later
      ])

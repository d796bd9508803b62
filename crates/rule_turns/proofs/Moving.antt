-- The truth values after a step.
use Rattle.std.proofs.Common.{ℕ, suc, ◌≡◌, ◌+◌, List, [], ◌∷◌, length, drop, map, refl, ap, Some, pos, unwrap_or, inl, inr}
use Rattle.std.specs.Prelude.{slice_get, ◌==◌}
use Rattle.std.specs.List.{filter_map}
use Rattle.std.proofs.lemmas.Bool.{cases_Bool}
use Rattle.music_base.specs.declared.item.Item.{Item}
use Rattle.music_base.specs.declared.item.Item.TheVariants.{Event, Value, Message}
use Rattle.music_base.proofs.Gathered.{rest_has, rest_on}
use Rattle.scene_model.specs.Tables.{value_in}
use Rattle.scene_model.specs.Turns.{Moment, over_now, next_state, opening, input_items}
use Rattle.scene_model.specs.declared.port.PortDecl.{PortDecl}
use Rattle.scene_model.specs.declared.rule.Rule.{Rule}
use Rattle.scene_model.specs.declared.rule.Rule.TheVariants.{EmitAt, EmitEvery, Pass, SetValue, Ramp, CopyValues, When, Say, Reply}
use Rattle.rule_turns.specs.OneRule.{found_value, is_over_in, source_of}
use Rattle.rule_turns.specs.Plans.{turn_plan, use_of, when_count, whens_from}
use Rattle.rule_turns.specs.Turning.{IsPlacedIn, is_over_at, use_over_now}
use Rattle.rule_turns.proofs.Looking.{items_named-place}

-- ---- one rule

-- what a block does not have counts as 0
value_in-found : (items : List Item) (g : ℕ) → value_in items g ≡ unwrap_or (found_value items g) (pos 0)
value_in-found [] g = refl
value_in-found (Value global value ∷ items) g = elim (cases_Bool (global == g)) [ inl t ↦ rw t refl | inr f ↦ rw f (value_in-found items g) ]
value_in-found (Event e ∷ items) g = value_in-found items g
value_in-found (Message m ∷ items) g = value_in-found items g

-- a look at the place of the index tells whether the value is over
pub is_over-placed : (written : List ℕ) (items : List Item) (place : ℕ) (rule : Rule) → IsPlacedIn written items place rule → is_over_at items place rule ≡ is_over_in items rule
is_over-placed written items place (EmitAt _ _ _) placed = refl
is_over-placed written items place (EmitEvery _ _ _ _) placed = refl
is_over-placed written items place (Pass _ _ _ _) placed = refl
is_over-placed written items place (SetValue _ _ _) placed = refl
is_over-placed written items place (Ramp _ _ _ _) placed = refl
is_over-placed written items place (CopyValues _ _ _ _ _) placed = refl
is_over-placed written items place (When _ index _ _ _) placed = rw (placed, value_in-found items index) refl
is_over-placed written items place (Say _ _ _ _) placed = refl
is_over-placed written items place (Reply _ _ _) placed = refl

-- ---- all `when` rules

module _ (rules : List Rule) (m : Moment) (each : length m.inputs ≡ length m.ports) where
  use_over-is : (r k : ℕ) (rule : Rule) → slice_get rules r ≡ Some rule
      → use_over_now rules m.inputs (use_of m.ports [] r k rule) ≡ is_over_in (input_items m (source_of rule)) rule
  use_over-is r k rule at = rw (at, items_named-place m.ports m.inputs (source_of rule) each) refl

  whens_move : (rest : List Rule) (r k : ℕ) → drop r rules ≡ rest → map (use_over_now rules m.inputs) (whens_from m.ports r k rest) ≡ filter_map (over_now m) rest
  whens_move [] r k e = refl
  whens_move (rule ∷ rest) r k e = one rule (rest_has rules r rule rest e) (whens_move rest (r + 1) (k + when_count rule) (rest_on rules r rule rest e))
    where
      one : (x : Rule) → slice_get rules r ≡ Some x → map (use_over_now rules m.inputs) (whens_from m.ports (r + 1) (k + when_count x) rest) ≡ filter_map (over_now m) rest
          → map (use_over_now rules m.inputs) (whens_from m.ports r k (x ∷ rest)) ≡ filter_map (over_now m) (x ∷ rest)
      one (EmitAt _ _ _) at later = later
      one (EmitEvery _ _ _ _) at later = later
      one (Pass _ _ _ _) at later = later
      one (SetValue _ _ _) at later = later
      one (Ramp _ _ _ _) at later = later
      one (CopyValues _ _ _ _ _) at later = later
      one (When input index over output x) at later = rw (use_over-is r k (When input index over output x) at, later) refl
      one (Say _ _ _ _) at later = later
      one (Reply _ _ _) at later = later

  pub states_move : map (use_over_now rules m.inputs) (turn_plan m.ports rules).whens ≡ next_state rules m
  unfolding turn_plan
  states_move = whens_move rules 0 0 refl

-- there are as many uses as truth values
length-whens_from : (ports : List PortDecl) (rules : List Rule) (r k : ℕ) → length (whens_from ports r k rules) ≡ length (opening rules)
length-whens_from ports [] r k = refl
length-whens_from ports (rule ∷ rest) r k = one rule (length-whens_from ports rest (r + 1) (k + when_count rule))
  where
    one : (x : Rule) → length (whens_from ports (r + 1) (k + when_count x) rest) ≡ length (opening rest) → length (whens_from ports r k (x ∷ rest)) ≡ length (opening (x ∷ rest))
    one (EmitAt _ _ _) later = later
    one (EmitEvery _ _ _ _) later = later
    one (Pass _ _ _ _) later = later
    one (SetValue _ _ _) later = later
    one (Ramp _ _ _ _) later = later
    one (CopyValues _ _ _ _ _) later = later
    one (When _ _ _ _ _) later = ap (λ (n : ℕ). suc n) later
    one (Say _ _ _ _) later = later
    one (Reply _ _ _) later = later

pub length-whens : (ports : List PortDecl) (rules : List Rule) → length (turn_plan ports rules).whens ≡ length (opening rules)
unfolding turn_plan
length-whens ports rules = length-whens_from ports rules 0 0

-- and a step leaves as many
pub length-next_state : (rules : List Rule) (m : Moment) → length (next_state rules m) ≡ length (opening rules)
length-next_state [] m = refl
length-next_state (rule ∷ rest) m = one rule (length-next_state rest m)
  where
    one : (x : Rule) → length (next_state rest m) ≡ length (opening rest) → length (next_state (x ∷ rest) m) ≡ length (opening (x ∷ rest))
    one (EmitAt _ _ _) later = later
    one (EmitEvery _ _ _ _) later = later
    one (Pass _ _ _ _) later = later
    one (SetValue _ _ _) later = later
    one (Ramp _ _ _ _) later = later
    one (CopyValues _ _ _ _ _) later = later
    one (When _ _ _ _ _) later = ap (λ (n : ℕ). suc n) later
    one (Say _ _ _ _) later = later
    one (Reply _ _ _) later = later

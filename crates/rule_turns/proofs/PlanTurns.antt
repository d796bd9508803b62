-- The outputs by a plan are the turn.
use Rattle.std.proofs.Common.{ℕ, suc, ◌≡◌, ◌<◌, List, [], ◌∷◌, length, map, arith, refl, sym, subst, ◌∙◌, Bool, false, Option, None, Some}
use Rattle.std.specs.Prelude.{slice_get, slice_index_or}
use Rattle.std.specs.List.{AllByRecursion}
use Rattle.music_base.specs.Items.{AreValues}
use Rattle.music_base.specs.declared.item.Item.{Item}
use Rattle.music_base.proofs.Lists.{All-weaker, map-agree_each}
use Rattle.index_maps.specs.Maps.{indices}
use Rattle.scene_model.specs.Scenes.{no_port}
use Rattle.scene_model.specs.Tables.{StepOutput}
use Rattle.scene_model.specs.Turns.{Moment, next_state, port_named, port_output, turn}
use Rattle.scene_model.specs.declared.port.PortDecl.{PortDecl}
use Rattle.scene_model.specs.declared.port.PortKind.{PortKind}
use Rattle.scene_model.specs.declared.port.PortKind.TheVariants.{Events, Values, Messages}
use Rattle.scene_model.specs.declared.port.Direction.{Direction}
use Rattle.scene_model.specs.declared.port.Direction.TheVariants.{Output, Input}
use Rattle.scene_model.specs.declared.rule.Rule.{Rule}
use Rattle.scene_model.specs.declared.rule.Rule.TheVariants.{EmitAt, EmitEvery, Pass, SetValue, Ramp, CopyValues, When, Say, Reply}
use Rattle.scene_model.proofs.RuleCases.{IsRule, are_rules}
use Rattle.rule_turns.specs.declared.plan.RuleUse.{RuleUse}
use Rattle.rule_turns.specs.OneRule.{is_over_in}
use Rattle.rule_turns.specs.Plans.{place_named, turn_plan, uses_of_port, whens_from}
use Rattle.rule_turns.specs.Turning.{AreInputs, CanTurn, IsPlaced, IsPlacedWith, by_plan, is_over_at, items_of, port_gives, step_in, use_over_at, use_over_now, used}
use Rattle.rule_turns.proofs.Looking.{items_named-place, port_named-place, port_of_own_name}
use Rattle.rule_turns.proofs.Emitting.{uses_emit}
use Rattle.rule_turns.proofs.Giving.{HasBlock, values_given}
use Rattle.rule_turns.proofs.Placing.{input_block, placed_whens}
use Rattle.rule_turns.proofs.Moving.{is_over-placed, states_move}

-- what holds of each element by its place holds of all
All-from_places : {X : Type 0} (P : X → Type 0) (xs : List X) (d : X) → ((p : ℕ) → p < length xs → P (slice_index_or xs p d)) → AllByRecursion P xs
All-from_places P [] d h = tt
All-from_places P (x ∷ xs) d h = (h 0 (omega arith), All-from_places P xs d (λ p lt. h (suc p) (omega arith)))

module _ (rules : List Rule) (state : List Bool) (m : Moment) (are : AreInputs m.ports m.inputs) where
  -- a rule that stands has what it copies
  has_block : (rule : Rule) → IsRule m.ports m.tick rule → HasBlock m rule
  has_block (EmitAt _ _ _) is = tt
  has_block (EmitEvery _ _ _ _) is = tt
  has_block (Pass _ _ _ _) is = tt
  has_block (SetValue _ _ _) is = tt
  has_block (Ramp _ _ _ _) is = tt
  has_block (CopyValues input _ _ _ _) is =
      let P : PortDecl → List Item → Type 0 = λ port items. AreValues (indices port.map) items in
      let there : P (port_named m.ports input) (slice_index_or m.inputs (place_named m.ports input) []) =
      subst (λ (port : PortDecl). P port (slice_index_or m.inputs (place_named m.ports input) [])) (sym (port_named-place m.ports input)) (input_block m.ports m.inputs are input is.0) in
      subst (P (port_named m.ports input)) (sym (items_named-place m.ports m.inputs input are.counted)) there
  has_block (When _ _ _ _ _) is = tt
  has_block (Say _ _ _ _) is = tt
  has_block (Reply _ _ _) is = tt

  module _ (blocks : AllByRecursion (HasBlock m) rules) where
    port_gives-is : (port : PortDecl) (direction : Direction) (kind : PortKind) → port_named m.ports port.name ≡ port → port.kind ≡ kind
        → port_gives (step_in rules state m) direction kind port.map (uses_of_port m.ports rules port) ≡ port_output rules state m direction kind port
    port_gives-is port Input kind is at = refl
    port_gives-is port Output Values is at = rw at (values_given rules state m are.counted port.name (indices port.map) blocks)
    port_gives-is port Output Events is at =
        subst (λ (q : PortDecl). port_gives (step_in rules state m) Output Events q.map (uses_of_port m.ports rules port) ≡ port_output rules state m Output Events port) is
        (uses_emit rules state m are.counted _ port.name rules 0 0 refl)
    port_gives-is port Output Messages is at =
        subst (λ (q : PortDecl). port_gives (step_in rules state m) Output Messages q.map (uses_of_port m.ports rules port) ≡ port_output rules state m Output Messages port) is
        (uses_emit rules state m are.counted _ port.name rules 0 0 refl)

    by_plan-is : (ports : List PortDecl) → AllByRecursion (λ (q : PortDecl). port_named m.ports q.name ≡ q) ports
        → by_plan (step_in rules state m) ports (map (uses_of_port m.ports rules) ports) ≡ map (λ (port : PortDecl). port_output rules state m port.direction port.kind port) ports
    by_plan-is [] own = refl
    by_plan-is (q ∷ qs) own = rw (port_gives-is q q.direction q.kind own.0 refl, by_plan-is qs own.1) refl

  pub plan_turns : CanTurn m.ports m.tick rules → by_plan (step_in rules state m) m.ports (turn_plan m.ports rules).ports ≡ turn rules state m
  unfolding turn turn_plan
  plan_turns can =
      by_plan-is (All-weaker (IsRule m.ports m.tick) (HasBlock m) has_block rules (are_rules m.ports m.tick can.lasts rules can.stand.stand)) m.ports
      (All-from_places (λ (q : PortDecl). port_named m.ports q.name ≡ q) m.ports no_port (λ p lt. port_of_own_name m.ports p can.differ lt))

-- ---- the truth values by a plan

use_over-placed : (rules : List Rule) (inputs : StepOutput) (u : RuleUse) → IsPlaced rules inputs [] u → use_over_at rules inputs u ≡ use_over_now rules inputs u
use_over-placed rules inputs u placed = by_rule (slice_get rules u.rule) placed
  where
    by_rule : (found : Option Rule) → IsPlacedWith [] (items_of inputs u) u.place found
        → used (is_over_at (items_of inputs u) u.place) false found ≡ used (is_over_in (items_of inputs u)) false found
    by_rule None placed = refl
    by_rule (Some rule) placed = is_over-placed [] (items_of inputs u) u.place rule placed

pub plan_moves : (rules : List Rule) (m : Moment) → CanTurn m.ports m.tick rules → AreInputs m.ports m.inputs
    → map (use_over_at rules m.inputs) (turn_plan m.ports rules).whens ≡ next_state rules m
unfolding turn_plan
plan_moves rules m can are =
    let us : List RuleUse = whens_from m.ports 0 0 rules in
    map-agree_each (use_over_at rules m.inputs) (use_over_now rules m.inputs) us
    (All-weaker (IsPlaced rules m.inputs []) (λ u. use_over_at rules m.inputs u ≡ use_over_now rules m.inputs u) (use_over-placed rules m.inputs) us
    (placed_whens m.ports m.inputs are rules m.tick rules 0 0 (are_rules m.ports m.tick can.lasts rules can.stand.stand) refl))
    ∙ states_move rules m are.counted

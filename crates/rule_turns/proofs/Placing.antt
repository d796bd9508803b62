-- The uses of a plan find what their rules need.
use Rattle.std.proofs.Common.{ℕ, Bool, ◌≡◌, ◌+◌, ◌<◌, List, [], ◌∷◌, length, drop, map, true, refl, inl, inr, Some}
use Rattle.std.specs.Prelude.{slice_get, slice_index_or}
use Rattle.std.specs.List.{AllByRecursion, list_all}
use Rattle.std.proofs.lemmas.Bool.{cases_Bool, cases_lt}
use Rattle.std.proofs.lemmas.List.{get_or-map, get_or_past}
use Rattle.std.proofs.lemmas.List.Elements.{recursion_from_All}
use Rattle.std.proofs.lemmas.List.Sums.{AllPass-from_list_all}
use Rattle.music_base.specs.Items.{AreValues}
use Rattle.music_base.proofs.Gathered.{rest_has, rest_on}
use Rattle.music_base.proofs.Lists.{All-at}
use Rattle.index_maps.specs.Maps.{indices}
use Rattle.index_maps.proofs.Ascending.{indices-ascends}
use Rattle.scene_model.specs.Ports.{has_indices}
use Rattle.scene_model.specs.Scenes.{no_port}
use Rattle.scene_model.specs.Tables.{StepOutput}
use Rattle.scene_model.specs.Turns.{port_named, same_name, target_of}
use Rattle.scene_model.specs.declared.port.PortDecl.{PortDecl}
use Rattle.scene_model.specs.declared.port.PortKind.TheVariants.{Values}
use Rattle.scene_model.specs.declared.port.Direction.TheVariants.{Output, Input}
use Rattle.scene_model.specs.declared.rule.Rule.{Rule}
use Rattle.scene_model.specs.declared.rule.Rule.TheVariants.{EmitAt, EmitEvery, Pass, SetValue, Ramp, CopyValues, When, Say, Reply}
use Rattle.scene_model.proofs.RuleCases.{HasPort, IsRule, are_rules}
use Rattle.rule_turns.specs.OneRule.{source_of}
use Rattle.rule_turns.specs.Plans.{indices_at, indices_of, place_in_block, place_named, turn_plan, use_of, uses_of_port, uses_from, when_count, whens_from}
use Rattle.rule_turns.specs.Turning.{AreInputs, CanTurn, IsPlaced, IsPlacedIn, IsPlanned, no_uses}
use Rattle.rule_turns.proofs.Looking.{port_named-place}
use Rattle.rule_turns.proofs.Ascending.{ascending-values, found_value-place}

-- what a test finds of each element holds of the one at a place
list_all-at : {X : Type 0} (test : X → Bool) (xs : List X) (i : ℕ) (d : X) → list_all test xs ≡ true → i < length xs → test (slice_index_or xs i d) ≡ true
list_all-at test xs i d all lt = All-at (λ x. test x ≡ true) xs i d (recursion_from_All (λ x. test x ≡ true) xs (AllPass-from_list_all test xs all)) lt

module _ (ports : List PortDecl) (inputs : StepOutput) (are : AreInputs ports inputs) where
  -- what a continuous input of a name reads: a value for each index that it maps
  pub input_block : (name : List ℕ) → HasPort ports name Input Values
      → AreValues (indices (slice_index_or ports (place_named ports name) no_port).map) (slice_index_or inputs (place_named ports name) [])
  input_block name has =
      let p : ℕ = place_named ports name in
      let at : port_named ports name ≡ slice_index_or ports p no_port = port_named-place ports name in
      let way : (slice_index_or ports p no_port).direction ≡ Input = rw at at has.is_direction in
      let kind : (slice_index_or ports p no_port).kind ≡ Values = rw at at has.is_kind in
      elim (cases_lt p (length ports)) [
        | inl lt ↦ rw (way, kind) at (are.kinds p lt)
        | inr past ↦
            let none : slice_index_or ports p no_port ≡ no_port = get_or_past ports p no_port past in
            let other : Output ≡ Input = rw none at way in cc
      ]

  abbrev read : Rule → ℕ
  read rule = place_named ports (source_of rule)

  -- where its rule stands, a use is placed
  placed_rule : (tick : ℕ) (written : List ℕ) (rule : Rule) → IsRule ports tick rule
      → IsPlacedIn written (slice_index_or inputs (read rule) []) (place_in_block written (indices_at ports (read rule)) rule) rule
  placed_rule tick written (EmitAt _ _ _) is = tt
  placed_rule tick written (EmitEvery _ _ _ _) is = tt
  placed_rule tick written (Pass _ _ _ _) is = tt
  placed_rule tick written (SetValue _ _ _) is = refl
  placed_rule tick written (Ramp _ _ _ _) is = refl
  placed_rule tick written (CopyValues input output numerator denominator add) is =
      ascending-values 0 _ _ (indices-ascends (slice_index_or ports (place_named ports input) no_port).map) (input_block input is.0)
  placed_rule tick written (When input index over output emitted) is =
      let p : ℕ = place_named ports input in
      let at : port_named ports input ≡ slice_index_or ports p no_port = port_named-place ports input in
      let kind : (slice_index_or ports p no_port).kind ≡ Values = rw at at is.0.is_kind in
      rw kind (found_value-place (indices (slice_index_or ports p no_port).map) (slice_index_or inputs p []) index (input_block input is.0))
  placed_rule tick written (Say _ _ _ _) is = tt
  placed_rule tick written (Reply _ _ _) is = tt

  module _ (rules : List Rule) (tick : ℕ) where
    placed_use : (written : List ℕ) (r k : ℕ) (rule : Rule) → IsRule ports tick rule → slice_get rules r ≡ Some rule
        → IsPlaced rules inputs written (use_of ports written r k rule)
    placed_use written r k rule is at = rw at (placed_rule tick written rule is)

    pub placed_uses : (written name : List ℕ) (rest : List Rule) (r k : ℕ) → AllByRecursion (IsRule ports tick) rest → drop r rules ≡ rest
        → AllByRecursion (IsPlaced rules inputs written) (uses_from ports written name r k rest)
    placed_uses written name [] r k are e = tt
    placed_uses written name (rule ∷ rest) r k are e =
        let later = placed_uses written name rest (r + 1) (k + when_count rule) are.1 (rest_on rules r rule rest e) in
        elim (cases_Bool (same_name (target_of rule) name)) [
          | inl t ↦ rw t (placed_use written r k rule are.0 (rest_has rules r rule rest e), later)
          | inr f ↦ rw f later
        ]

    pub placed_whens : (rest : List Rule) (r k : ℕ) → AllByRecursion (IsRule ports tick) rest → drop r rules ≡ rest
        → AllByRecursion (IsPlaced rules inputs []) (whens_from ports r k rest)
    placed_whens [] r k are e = tt
    placed_whens (rule ∷ rest) r k are e =
        one rule (placed_use [] r k rule are.0 (rest_has rules r rule rest e)) (placed_whens rest (r + 1) (k + when_count rule) are.1 (rest_on rules r rule rest e))
      where
        one : (x : Rule) → IsPlaced rules inputs [] (use_of ports [] r k x) → AllByRecursion (IsPlaced rules inputs []) (whens_from ports (r + 1) (k + when_count x) rest)
            → AllByRecursion (IsPlaced rules inputs []) (whens_from ports r k (x ∷ rest))
        one (EmitAt _ _ _) here later = later
        one (EmitEvery _ _ _ _) here later = later
        one (Pass _ _ _ _) here later = later
        one (SetValue _ _ _) here later = later
        one (Ramp _ _ _ _) here later = later
        one (CopyValues _ _ _ _ _) here later = later
        one (When _ _ _ _ _) here later = (here, later)
        one (Say _ _ _ _) here later = later
        one (Reply _ _ _) here later = later

  -- where the rules can turn, the uses of each port fit it
  pub planned_ports : (rules : List Rule) (tick : ℕ) → CanTurn ports tick rules → (p : ℕ) → p < length ports
      → IsPlanned rules inputs (slice_index_or ports p no_port) (slice_index_or (turn_plan ports rules).ports p no_uses)
  unfolding turn_plan
  planned_ports rules tick can p lt =
      let port : PortDecl = slice_index_or ports p no_port in
      let at : slice_index_or (map (uses_of_port ports rules) ports) p no_uses ≡ uses_of_port ports rules port = get_or-map (uses_of_port ports rules) ports p no_port no_uses lt in
      rw at (record {
        mapped = list_all-at (λ (q : PortDecl). has_indices q.map) ports p no_port can.mapped lt;
        indices = refl;
        placed = placed_uses rules tick (indices_of port) port.name rules 0 0 (are_rules ports tick can.lasts rules can.stand.stand) refl;
      })

-- What applications without a fault bring to a turn, and what a turn that they can make has.
use Rattle.std.proofs.Common.{ℕ, zero, suc, Bool, ◌+◌, ◌*◌, ◌≡◌, ◌<◌, ◌≤◌, ◌^◌, List, [], ◌∷◌, length, refl, arith, zero-add, true, Some}
use Rattle.std.specs.Prelude.{slice_get, slice_index_or}
use Rattle.std.specs.List.{AllByRecursion, list_all}
use Rattle.std.proofs.Math.Nat.{mul-le-mul_right}
use Rattle.std.proofs.lemmas.Bool.{and_parts, leb-true}
use Rattle.std.proofs.lemmas.List.FromFn.{get_or-map-range_with_len, length-map-range_with_len}
use Rattle.music_base.specs.declared.item.Item.{Item}
use Rattle.index_maps.specs.Maps.{indices}
use Rattle.scene_model.specs.Clocks.{span}
use Rattle.scene_model.specs.Faults.{IsApp}
use Rattle.scene_model.specs.Lives.{inputs, input_by}
use Rattle.scene_model.specs.Ports.{IsPort, has_indices}
use Rattle.scene_model.specs.Rules.{runs_for, stands}
use Rattle.scene_model.specs.Scenes.{app_at, port_at}
use Rattle.scene_model.specs.Spellable.{is_spellable, is_time}
use Rattle.scene_model.specs.Tables.{Table, value}
use Rattle.scene_model.specs.declared.scene.Scene.{Scene}
use Rattle.scene_model.specs.declared.scene.AppDecl.{AppDecl}
use Rattle.scene_model.specs.declared.port.PortDecl.{PortDecl}
use Rattle.scene_model.specs.declared.port.PortKind.{PortKind}
use Rattle.scene_model.specs.declared.port.PortKind.TheVariants.{Events, Values, Messages}
use Rattle.scene_model.specs.declared.port.Direction.{Direction}
use Rattle.scene_model.specs.declared.port.Direction.TheVariants.{Output, Input}
use Rattle.scene_model.specs.declared.rule.Rule.{Rule}
use Rattle.scene_model.specs.declared.rule.Rule.TheVariants.{EmitAt, EmitEvery, Pass, SetValue, Ramp, CopyValues, When, Say, Reply}
use Rattle.scene_model.proofs.ProperLives.{are_values}
use Rattle.scene_model.proofs.RuleCases.{IsRule, is_rule}
use Rattle.rule_turns.specs.Turning.{AreInputs, CanTurn, HasNumbers, IsInput}

-- ---- applications and inputs

all_mapped : (np : ℕ) (ports : List PortDecl) → AllByRecursion (IsPort np) ports → list_all (λ (port : PortDecl). has_indices port.map) ports ≡ true
all_mapped np [] are = refl
all_mapped np (port ∷ ports) are = rw (are.0.indices, all_mapped np ports are.1) refl

pub can_turn : (app : AppDecl) → IsApp app → CanTurn app.ports app.tick app.rules
can_turn app is = record { lasts = runs_for (span app) app.tick; stand = is.rules; differ = is.ports.differ; mapped = all_mapped app.np app.ports is.ports.each }

is_input : (scene : Scene) (table : Table) (a j p : ℕ) (direction : Direction) (kind : PortKind)
    → IsInput direction kind (port_at scene a p) (input_by direction kind scene table a j p)
is_input scene table a j p Output kind = tt
is_input scene table a j p Input Values = are_values (λ g. value scene table a p j g) (indices (port_at scene a p).map)
is_input scene table a j p Input Events = tt
is_input scene table a j p Input Messages = tt

pub inputs_are : (scene : Scene) (table : Table) (a j : ℕ) → AreInputs (app_at scene a).ports (inputs scene table a j)
inputs_are scene table a j =
    let f : ℕ → List Item = λ (p : ℕ). input_by (port_at scene a p).direction (port_at scene a p).kind scene table a j p in
    record {
      counted = length-map-range_with_len f 0 (length (app_at scene a).ports);
      kinds = λ p lt.
          let e : slice_index_or (inputs scene table a j) p [] ≡ f p = get_or-map-range_with_len f 0 (length (app_at scene a).ports) p p [] lt (zero-add p) in
          rw e (is_input scene table a j p (port_at scene a p).direction (port_at scene a p).kind);
    }

-- ---- the numbers of rules

has_numbers : (ports : List PortDecl) (tick : ℕ) (rule : Rule) → tick ≤ 10 ^ 12 → is_spellable rule ≡ true → IsRule ports tick rule → HasNumbers rule
has_numbers ports tick (EmitAt _ _ _) few spell is = tt
has_numbers ports tick (EmitEvery port index every first) few spell is =
    let two = and_parts _ (is_time first) spell in
    let one = and_parts _ (is_time every) two.0 in
    (is.2, leb-true every _ one.1, leb-true first _ two.1)
has_numbers ports tick (Pass _ _ _ after) few spell is = let lt : after < tick = is.2 in omega arith
has_numbers ports tick (SetValue _ _ _) few spell is = tt
has_numbers ports tick (Ramp _ _ _ _) few spell is = tt
has_numbers ports tick (CopyValues input output numerator denominator add) few spell is =
    let three = and_parts _ _ spell in
    let two = and_parts _ _ three.0 in
    leb-true 1 denominator (and_parts _ _ two.1).0
has_numbers ports tick (When _ _ _ _ _) few spell is = tt
has_numbers ports tick (Say port word every first) few spell is =
    let two = and_parts _ (is_time first) spell in
    let one = and_parts _ (is_time every) two.0 in
    (is.1, leb-true every _ one.1, leb-true first _ two.1)
has_numbers ports tick (Reply _ _ after) few spell is = let lt : after < tick = is.2 in omega arith

-- what a test finds of each element holds of the one at a place
passes_at : {X : Type 0} (test : X → Bool) (xs : List X) (i : ℕ) (x : X) → list_all test xs ≡ true → slice_get xs i ≡ Some x → test x ≡ true
passes_at test [] i x all at = cc
passes_at test (y ∷ ys) zero x all at = let e : y ≡ x = cc in rw (← e) (and_parts _ _ all).0
passes_at test (y ∷ ys) (suc i) x all at = passes_at test ys i x (and_parts _ _ all).1 at

pub numbers_of : (ports : List PortDecl) (tick : ℕ) (rules : List Rule) → tick ≤ 10 ^ 12 → CanTurn ports tick rules
    → (r : ℕ) (rule : Rule) → slice_get rules r ≡ Some rule → HasNumbers rule
numbers_of ports tick rules few can r rule at =
    has_numbers ports tick rule few (passes_at is_spellable rules r rule can.stand.spellable at)
    (is_rule ports tick can.lasts rule (passes_at (stands ports tick can.lasts) rules r rule can.stand.stand at))

-- ---- the clock of a step

pub clock_early : (start step tick : ℕ) → start ≤ 10 ^ 15 → step < 10 ^ 6 → tick ≤ 10 ^ 12 → start + step * tick ≤ 2 * 10 ^ 18
clock_early start step tick s k t = let steps : step * tick ≤ 10 ^ 6 * tick = mul-le-mul_right tick (omega arith) in omega arith

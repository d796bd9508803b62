-- What a rule without a fault asks of its application, rule by rule.
use Rattle.std.proofs.Common.{◌≡◌, refl, ℕ, ◌<◌, ◌≤◌, true, List, [], ◌∷◌}
use Rattle.std.specs.List.{AllByRecursion, list_all}
use Rattle.std.proofs.lemmas.Bool.{and_parts, leb-true, ltb-true}
use Rattle.index_maps.specs.Maps.{maps_index}
use Rattle.scene_model.specs.Ports.{same_direction}
use Rattle.scene_model.specs.Rules.{after_fits, has_port, indices_stand, is_mapped, is_rate, ports_stand, rate_fits, stands}
use Rattle.scene_model.specs.Turns.{port_named, same_name}
use Rattle.scene_model.specs.declared.port.PortDecl.{PortDecl}
use Rattle.scene_model.specs.declared.port.PortKind.{PortKind}
use Rattle.scene_model.specs.declared.port.PortKind.TheVariants.{Events, Values, Messages}
use Rattle.scene_model.specs.declared.port.Direction.{Direction}
use Rattle.scene_model.specs.declared.port.Direction.TheVariants.{Output, Input}
use Rattle.scene_model.specs.declared.rule.Rule.{Rule}
use Rattle.scene_model.specs.declared.rule.Rule.TheVariants.{EmitAt, EmitEvery, Pass, SetValue, Ramp, CopyValues, When, Say, Reply}
use Rattle.scene_model.proofs.Faultless.{of_one_kind}

-- a port of this name stands there, of this direction and kind
pub record HasPort (ports : List PortDecl) (name : List ℕ) (direction : Direction) (kind : PortKind) : Type 0 where
  pub named : same_name (port_named ports name).name name ≡ true
  pub is_direction : (port_named ports name).direction ≡ direction
  pub is_kind : (port_named ports name).kind ≡ kind

directions_same : (x y : Direction) → same_direction x y ≡ true → x ≡ y
directions_same Output Output h = refl
directions_same Input Input h = refl
directions_same Output Input h = absurd cc
directions_same Input Output h = absurd cc

pub port_there : (ports : List PortDecl) (name : List ℕ) (direction : Direction) (kind : PortKind) → has_port ports name direction kind ≡ true → HasPort ports name direction kind
unfolding has_port
port_there ports name direction kind h =
    let all = and_parts _ _ h in
    let two = and_parts _ _ all.0 in
    record { named = two.0; is_direction = directions_same _ _ two.1; is_kind = of_one_kind _ _ all.1 }

-- some rank of the port of this name maps the index
abbrev pub MapsAt : List PortDecl → List ℕ → ℕ → Type 0
MapsAt ports name index = maps_index (port_named ports name).map index ≡ true

mapped_there : (ports : List PortDecl) (name : List ℕ) (index : ℕ) → is_mapped ports name index ≡ true → MapsAt ports name index
unfolding is_mapped
mapped_there ports name index h = h

period_some : (lasts every : ℕ) → is_rate lasts every ≡ true → 1 ≤ every
unfolding is_rate
period_some lasts every h = leb-true 1 every (and_parts _ _ h).0

-- its ports are there, they map its indices, it passes on within the tick, and its period is some time
abbrev pub IsRule : List PortDecl → ℕ → Rule → Type 0
IsRule ports tick (EmitAt port index time) = HasPort ports port Output Events × MapsAt ports port index
IsRule ports tick (EmitEvery port index every first) = HasPort ports port Output Events × MapsAt ports port index × (1 ≤ every)
IsRule ports tick (Pass input output shift after) = HasPort ports input Input Events × HasPort ports output Output Events × (after < tick)
IsRule ports tick (SetValue port index value) = HasPort ports port Output Values × MapsAt ports port index
IsRule ports tick (Ramp port index start by) = HasPort ports port Output Values × MapsAt ports port index
IsRule ports tick (CopyValues input output numerator denominator add) = HasPort ports input Input Values × HasPort ports output Output Values
IsRule ports tick (When input index over output emitted) = HasPort ports input Input Values × MapsAt ports input index × HasPort ports output Output Events × MapsAt ports output emitted
IsRule ports tick (Say port word every first) = HasPort ports port Output Messages × (1 ≤ every)
IsRule ports tick (Reply input output after) = HasPort ports input Input Messages × HasPort ports output Output Messages × (after < tick)

module _ (ports : List PortDecl) (tick lasts : ℕ) where
  by_tests : (rule : Rule) → ports_stand ports rule ≡ true → indices_stand ports rule ≡ true → after_fits tick rule ≡ true → rate_fits lasts rule ≡ true → IsRule ports tick rule
  by_tests (EmitAt port index time) p i a r = (port_there ports port _ _ p, mapped_there ports port index i)
  by_tests (EmitEvery port index every first) p i a r = (port_there ports port _ _ p, mapped_there ports port index i, period_some lasts every r)
  by_tests (Pass input output shift after) p i a r = let both = and_parts _ _ p in (port_there ports input _ _ both.0, port_there ports output _ _ both.1, ltb-true after tick a)
  by_tests (SetValue port index value) p i a r = (port_there ports port _ _ p, mapped_there ports port index i)
  by_tests (Ramp port index start by) p i a r = (port_there ports port _ _ p, mapped_there ports port index i)
  by_tests (CopyValues input output numerator denominator add) p i a r = let both = and_parts _ _ p in (port_there ports input _ _ both.0, port_there ports output _ _ both.1)
  by_tests (When input index over output emitted) p i a r =
      let both = and_parts _ _ p in
      let maps = and_parts _ _ i in
      (port_there ports input _ _ both.0, mapped_there ports input index maps.0, port_there ports output _ _ both.1, mapped_there ports output emitted maps.1)
  by_tests (Say port word every first) p i a r = (port_there ports port _ _ p, period_some lasts every r)
  by_tests (Reply input output after) p i a r = let both = and_parts _ _ p in (port_there ports input _ _ both.0, port_there ports output _ _ both.1, ltb-true after tick a)

  pub is_rule : (rule : Rule) → stands ports tick lasts rule ≡ true → IsRule ports tick rule
  is_rule rule h =
      let four = and_parts _ _ h in
      let three = and_parts _ _ four.0 in
      let two = and_parts _ _ three.0 in
      by_tests rule two.0 two.1 three.1 four.1

  pub are_rules : (rules : List Rule) → list_all (stands ports tick lasts) rules ≡ true → AllByRecursion (IsRule ports tick) rules
  are_rules [] h = tt
  are_rules (rule ∷ rules) h = let both = and_parts _ _ h in (is_rule rule both.0, are_rules rules both.1)

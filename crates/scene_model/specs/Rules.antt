-- Lawful rules: what a rule asks of its application.
use Rattle.std.specs.Prelude.{◌≡◌, ℕ, ◌*◌, ◌/◌, ◌≤◌, Bool, true, ◌&&◌, nat_lt, nat_le, List, length}
use Rattle.std.specs.List.{list_all}
use Rattle.music_base.specs.Clocks.{steps_until}
use Rattle.index_maps.specs.Maps.{maps_index}
use Rattle.scene_model.specs.Limits.{most_periods, most_rules}
use Rattle.scene_model.specs.Ports.{same_direction, same_kind}
use Rattle.scene_model.specs.Spellable.{is_spellable}
use Rattle.scene_model.specs.Turns.{same_name, port_named}
use Rattle.scene_model.specs.declared.port.PortDecl.{PortDecl}
use Rattle.scene_model.specs.declared.port.PortKind.{PortKind}
use Rattle.scene_model.specs.declared.port.PortKind.TheVariants.{Events, Values, Messages}
use Rattle.scene_model.specs.declared.port.Direction.{Direction}
use Rattle.scene_model.specs.declared.port.Direction.TheVariants.{Output, Input}
use Rattle.scene_model.specs.declared.rule.Rule.{Rule}
use Rattle.scene_model.specs.declared.rule.Rule.TheVariants.{EmitAt, EmitEvery, Pass, SetValue, Ramp, CopyValues, When, Say, Reply}

-- how long an application runs whose steps begin within a span: their number times its tick
unfoldable pub runs_for : ℕ → ℕ → ℕ
runs_for span tick = steps_until span tick * tick

-- ---- ports

-- a port of this name stands there, of this direction and kind
unfoldable pub has_port : List PortDecl → List ℕ → Direction → PortKind → Bool
has_port ports name direction kind =
    let port = port_named ports name in
    same_name port.name name && same_direction port.direction direction && same_kind port.kind kind

-- each rule asks for its ports
abbrev pub ports_stand : List PortDecl → Rule → Bool
ports_stand ports (EmitAt port _ _) = has_port ports port Output Events
ports_stand ports (EmitEvery port _ _ _) = has_port ports port Output Events
ports_stand ports (Pass input output _ _) = has_port ports input Input Events && has_port ports output Output Events
ports_stand ports (SetValue port _ _) = has_port ports port Output Values
ports_stand ports (Ramp port _ _ _) = has_port ports port Output Values
ports_stand ports (CopyValues input output _ _ _) = has_port ports input Input Values && has_port ports output Output Values
ports_stand ports (When input _ _ output _) = has_port ports input Input Values && has_port ports output Output Events
ports_stand ports (Say port _ _ _) = has_port ports port Output Messages
ports_stand ports (Reply input output _) = has_port ports input Input Messages && has_port ports output Output Messages

-- ---- indices

-- some rank of the port of this name maps the index
unfoldable pub is_mapped : List PortDecl → List ℕ → ℕ → Bool
is_mapped ports name index = maps_index (port_named ports name).map index

-- each index that a rule states is mapped by its port
abbrev pub indices_stand : List PortDecl → Rule → Bool
indices_stand ports (EmitAt port index _) = is_mapped ports port index
indices_stand ports (EmitEvery port index _ _) = is_mapped ports port index
indices_stand ports (SetValue port index _) = is_mapped ports port index
indices_stand ports (Ramp port index _ _) = is_mapped ports port index
indices_stand ports (When input index _ output emitted) = is_mapped ports input index && is_mapped ports output emitted
indices_stand ports _ = true

-- ---- times

-- what a rule passes on in a step, it passes on less than a tick after the step begins
abbrev pub after_fits : ℕ → Rule → Bool
after_fits tick (Pass _ _ _ after) = nat_lt after tick
after_fits tick (Reply _ _ after) = nat_lt after tick
after_fits tick _ = true

-- a period is no empty time, and the run does not hold too many of it
unfoldable pub is_rate : ℕ → ℕ → Bool
is_rate lasts every = nat_le 1 every && nat_le (lasts / every) most_periods

abbrev pub rate_fits : ℕ → Rule → Bool
rate_fits lasts (EmitEvery _ _ every _) = is_rate lasts every
rate_fits lasts (Say _ _ every _) = is_rate lasts every
rate_fits lasts _ = true

-- ---- rules

-- the rule has no fault in an application of these ports and this tick that runs for so long
abbrev pub stands : List PortDecl → ℕ → ℕ → Rule → Bool
stands ports tick lasts rule = ports_stand ports rule && indices_stand ports rule && after_fits tick rule && rate_fits lasts rule

-- all rules of an application of these ports and this tick that runs for so long
pub record AreRules (ports : List PortDecl) (tick lasts : ℕ) (rules : List Rule) : Type 0 where
  pub few : length rules ≤ most_rules
  pub spellable : list_all is_spellable rules ≡ true
  pub stand : list_all (stands ports tick lasts) rules ≡ true

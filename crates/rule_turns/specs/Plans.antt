-- For each port the rules that write it, with the places of what they read and write.
use Rattle.std.specs.Prelude.{ℕ, ◌+◌, ◌==◌, if◌then◌else◌, List, [], ◌∷◌, ◌++◌, map, slice_index_or}
use Rattle.std.specs.List.{position_or_len}
use Rattle.index_maps.specs.Maps.{indices}
use Rattle.index_maps.specs.declared.map.PortMap.{PortMap}
use Rattle.scene_model.specs.Scenes.{no_port}
use Rattle.scene_model.specs.Turns.{same_name, target_of}
use Rattle.scene_model.specs.declared.port.PortDecl.{PortDecl}
use Rattle.scene_model.specs.declared.port.PortKind.{PortKind}
use Rattle.scene_model.specs.declared.port.PortKind.TheVariants.{Values}
use Rattle.scene_model.specs.declared.rule.Rule.{Rule}
use Rattle.scene_model.specs.declared.rule.Rule.TheVariants.{SetValue, Ramp, When}
use Rattle.rule_turns.specs.OneRule.{source_of}
use Rattle.rule_turns.specs.declared.plan.RuleUse.{RuleUse}
use Rattle.rule_turns.specs.declared.plan.PortUses.{PortUses}
use Rattle.rule_turns.specs.declared.plan.TurnPlan.{TurnPlan}

-- ---- places

-- the place of the port of a name, and the number of ports where none has it
abbrev pub place_named : List PortDecl → List ℕ → ℕ
place_named ports name = position_or_len (λ (port : PortDecl). same_name port.name name) ports

-- the indices for which a block of the port has a value: those of a continuous port
abbrev pub value_indices : PortKind → PortMap → List ℕ
value_indices Values map = indices map
value_indices _ map = []

abbrev pub indices_of : PortDecl → List ℕ
indices_of port = value_indices port.kind port.map

abbrev pub indices_at : List PortDecl → ℕ → List ℕ
indices_at ports p = indices_of (slice_index_or ports p no_port)

-- the place of an index among these, and their number where it is none of them
abbrev pub index_place : List ℕ → ℕ → ℕ
index_place gs g = position_or_len (λ i. i == g) gs

-- where a rule finds its index: `set` and `ramp` among those that their output writes, `when` among those that its input
-- reads
abbrev pub place_in_block : List ℕ → List ℕ → Rule → ℕ
place_in_block written read (SetValue _ index _) = index_place written index
place_in_block written read (Ramp _ index _ _) = index_place written index
place_in_block written read (When _ index _ _ _) = index_place read index
place_in_block written read _ = 0

-- ---- uses

-- a state has one truth value for each `when` rule
abbrev pub when_count : Rule → ℕ
when_count (When _ _ _ _ _) = 1
when_count _ = 0

-- rule r, before which stand s `when` rules, at an output of these indices
abbrev pub use_of : List PortDecl → List ℕ → ℕ → ℕ → Rule → RuleUse
use_of ports written r s rule =
    let input : ℕ = place_named ports (source_of rule) in
    record { rule = r; input = input; state = s; place = place_in_block written (indices_at ports input) rule }

-- the rules that write the port of a name, in order. The rules begin with rule r, and before them stand s `when` rules
abbrev pub uses_from : List PortDecl → List ℕ → List ℕ → ℕ → ℕ → List Rule → List RuleUse
uses_from ports written name r s [] = []
uses_from ports written name r s (rule ∷ rules) =
    (if same_name (target_of rule) name then use_of ports written r s rule ∷ [] else [])
    ++ uses_from ports written name (r + 1) (s + when_count rule) rules

abbrev pub uses_of_port : List PortDecl → List Rule → PortDecl → PortUses
uses_of_port ports rules port =
    record { indices = indices_of port; uses = uses_from ports (indices_of port) port.name 0 0 rules }

-- the `when` rules, in order
abbrev pub when_of : List PortDecl → ℕ → ℕ → Rule → List RuleUse
when_of ports r s (When input index over output emitted) = use_of ports [] r s (When input index over output emitted) ∷ []
when_of ports r s _ = []

abbrev pub whens_from : List PortDecl → ℕ → ℕ → List Rule → List RuleUse
whens_from ports r s [] = []
whens_from ports r s (rule ∷ rules) = when_of ports r s rule ++ whens_from ports (r + 1) (s + when_count rule) rules

-- ---- the plan

unfoldable pub turn_plan : List PortDecl → List Rule → TurnPlan
turn_plan ports rules = record { ports = map (uses_of_port ports rules) ports; whens = whens_from ports 0 0 rules }

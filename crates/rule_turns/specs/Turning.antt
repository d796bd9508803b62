-- The turn of one step by a plan, and what a turn asks.
use Rattle.std.specs.Prelude.{ℕ, ◌≡◌, ◌*◌, ◌+◌, ◌^◌, ◌<◌, ◌≤◌, ◌==◌, if◌then◌else◌, int_lt, Bool, true, false, List, [], ◌∷◌, map, length, slice_get, slice_index_or, ℤ, pos, Option, None, Some, unwrap_or, ⊤}
use Rattle.std.specs.List.{flat_map, list_all, AllByRecursion}
use Rattle.music_base.specs.Items.{AreValues}
use Rattle.music_base.specs.declared.item.Item.{Item}
use Rattle.music_base.specs.declared.item.Item.TheVariants.{Value}
use Rattle.index_maps.specs.Maps.{indices}
use Rattle.index_maps.specs.declared.map.PortMap.{PortMap}
use Rattle.scene_model.specs.Ports.{has_indices, names_differ}
use Rattle.scene_model.specs.Rules.{AreRules}
use Rattle.scene_model.specs.Scenes.{no_port}
use Rattle.scene_model.specs.Tables.{StepOutput}
use Rattle.scene_model.specs.Turns.{Moment, clock_of, end_of}
use Rattle.scene_model.specs.declared.port.PortDecl.{PortDecl}
use Rattle.scene_model.specs.declared.port.PortKind.{PortKind}
use Rattle.scene_model.specs.declared.port.PortKind.TheVariants.{Values}
use Rattle.scene_model.specs.declared.port.Direction.{Direction}
use Rattle.scene_model.specs.declared.port.Direction.TheVariants.{Output, Input}
use Rattle.scene_model.specs.declared.rule.Rule.{Rule}
use Rattle.scene_model.specs.declared.rule.Rule.TheVariants.{EmitEvery, Pass, SetValue, Ramp, CopyValues, When, Say, Reply}
use Rattle.rule_turns.specs.OneRule.{emits, found_value, gives, is_over_in}
use Rattle.rule_turns.specs.Plans.{index_place, indices_of}
use Rattle.rule_turns.specs.declared.plan.RuleUse.{RuleUse}
use Rattle.rule_turns.specs.declared.plan.PortUses.{PortUses}
use Rattle.rule_turns.specs.declared.step.StepView.{StepView}

-- ---- the step

-- what all rules know of a step: the rules, the state before it, what the inputs read, its number, and the times from its
-- clock up to its end
pub record Step : Type 0 where
  pub rules : List Rule
  pub state : List Bool
  pub inputs : StepOutput
  pub number : ℕ
  pub from : ℕ
  pub to : ℕ

unfoldable pub step_in : List Rule → List Bool → Moment → Step
step_in rules state m = record { rules = rules; state = state; inputs = m.inputs; number = m.step; from = clock_of m; to = end_of m }

-- the step that the program is given
abbrev pub seen : StepView → Step
seen s = record { rules = s.rules.now; state = s.state.now; inputs = s.inputs.now; number = s.number; from = s.from; to = s.to }

-- ---- one use

-- what a rule answers, and what stands for a rule that is not there
abbrev pub used : {A : Type 0} → (Rule → A) → A → Option Rule → A
used f d None = d
used f d (Some rule) = f rule

-- what the input of a use reads
abbrev pub items_of : StepOutput → RuleUse → List Item
items_of inputs u = slice_index_or inputs u.input []

abbrev pub use_emits : Step → PortMap → RuleUse → List Item
use_emits s output u = used (emits output (items_of s.inputs u) s.from s.to (slice_index_or s.state u.state false)) [] (slice_get s.rules u.rule)

abbrev pub use_gives : Step → RuleUse → ℕ → Option ℤ
use_gives s u g = used (λ rule. gives (items_of s.inputs u) s.number rule g) None (slice_get s.rules u.rule)

abbrev pub use_over_now : List Rule → StepOutput → RuleUse → Bool
use_over_now rules inputs u = used (is_over_in (items_of inputs u)) false (slice_get rules u.rule)

-- ---- values at places

-- the value of an item, where its index is this one
abbrev pub value_of : ℕ → Option Item → Option ℤ
value_of g (Some (Value global value)) = if global == g then Some value else None
value_of g _ = None

-- the value that a `when` rule watches is over its bound, where it is looked for at one place alone
abbrev pub is_over_at : List Item → ℕ → Rule → Bool
is_over_at items place (When _ index over _ _) = int_lt over (unwrap_or (value_of index (slice_get items place)) (pos 0))
is_over_at items place _ = false

abbrev pub use_over_at : List Rule → StepOutput → RuleUse → Bool
use_over_at rules inputs u = used (is_over_at (items_of inputs u) u.place) false (slice_get rules u.rule)

-- ---- ports

-- the value of an index, or the one that f gives it
abbrev pub given_to : (ℕ → Option ℤ) → Item → Item
given_to f (Value g value) = Value g (unwrap_or (f g) value)
given_to f item = item

abbrev pub overlay : (ℕ → Option ℤ) → List Item → List Item
overlay f items = map (given_to f) items

-- values overlaid by one use after another
abbrev pub overlaid : Step → List RuleUse → List Item → List Item
overlaid s [] items = items
overlaid s (u ∷ us) items = overlaid s us (overlay (use_gives s u) items)

-- the value 0 for each index
abbrev pub zeros : List ℕ → List Item
zeros gs = map (λ g. Value g (pos 0)) gs

-- what a port puts out: an event or message output what its uses emit, a continuous output a value for each index, by the
-- last use that gives one, and an input nothing
abbrev pub port_gives : Step → Direction → PortKind → PortMap → PortUses → List Item
port_gives s Input kind map uses = []
port_gives s Output Values map uses = overlaid s uses.uses (zeros uses.indices)
port_gives s Output _ map uses = flat_map (use_emits s map) uses.uses

abbrev pub by_plan : Step → List PortDecl → List PortUses → StepOutput
by_plan s [] plans = []
by_plan s (port ∷ ports) [] = []
by_plan s (port ∷ ports) (uses ∷ plans) = port_gives s port.direction port.kind port.map uses ∷ by_plan s ports plans

-- ---- what a turn asks

-- what an input reads in a step: a continuous one has a value for each mapped index
abbrev pub IsInput : Direction → PortKind → PortDecl → List Item → Type 0
IsInput Input Values port items = AreValues (indices port.map) items
IsInput _ _ port items = ⊤

pub record AreInputs (ports : List PortDecl) (inputs : StepOutput) : Type 0 where
  pub counted : length inputs ≡ length ports
  pub kinds : (p : ℕ) → p < length ports → IsInput (slice_index_or ports p no_port).direction (slice_index_or ports p no_port).kind (slice_index_or ports p no_port) (slice_index_or inputs p [])

-- the rules stand in an application of these ports and this tick, however long it runs
pub record CanTurn (ports : List PortDecl) (tick : ℕ) (rules : List Rule) : Type 0 where
  pub lasts : ℕ
  pub stand : AreRules ports tick lasts rules
  pub differ : names_differ ports ≡ true
  pub mapped : list_all (λ (port : PortDecl). has_indices port.map) ports ≡ true

-- ---- what the program rests on

-- the numbers of a rule, in ns, lie where no sum of them leaves 64 bits, and no divisor is 0
abbrev pub HasNumbers : Rule → Type 0
HasNumbers (EmitEvery _ _ every first) = (1 ≤ every) × (every ≤ 10 ^ 15) × (first ≤ 10 ^ 15)
HasNumbers (Say _ _ every first) = (1 ≤ every) × (every ≤ 10 ^ 15) × (first ≤ 10 ^ 15)
HasNumbers (Pass _ _ _ after) = after ≤ 10 ^ 15
HasNumbers (Reply _ _ after) = after ≤ 10 ^ 15
HasNumbers (CopyValues _ _ _ denominator _) = 1 ≤ denominator
HasNumbers _ = ⊤

pub record IsStep (s : Step) : Type 0 where
  pub numbers : (r : ℕ) (rule : Rule) → slice_get s.rules r ≡ Some rule → HasNumbers rule
  pub few : s.number < 10 ^ 6
  pub early : s.from ≤ 2 * 10 ^ 18

-- values of which the indices ascend, from a least one on
abbrev pub AreAscending : ℕ → List Item → Type 0
AreAscending least [] = ⊤
AreAscending least (Value global value ∷ items) = (least ≤ global) × AreAscending (global + 1) items
AreAscending least (_ ∷ items) = ⊥

-- a rule finds its index at its place in the block that it writes or reads, and what it copies ascends
abbrev pub IsPlacedIn : List ℕ → List Item → ℕ → Rule → Type 0
IsPlacedIn written items place (SetValue _ index _) = place ≡ index_place written index
IsPlacedIn written items place (Ramp _ index _ _) = place ≡ index_place written index
IsPlacedIn written items place (CopyValues _ _ _ _ _) = AreAscending 0 items
IsPlacedIn written items place (When _ index _ _ _) = value_of index (slice_get items place) ≡ found_value items index
IsPlacedIn written items place _ = ⊤

abbrev pub IsPlacedWith : List ℕ → List Item → ℕ → Option Rule → Type 0
IsPlacedWith written items place None = ⊤
IsPlacedWith written items place (Some rule) = IsPlacedIn written items place rule

abbrev pub IsPlaced : List Rule → StepOutput → List ℕ → RuleUse → Type 0
IsPlaced rules inputs written u = IsPlacedWith written (items_of inputs u) u.place (slice_get rules u.rule)

-- what stands past the ports of a plan
abbrev pub no_uses : PortUses
no_uses = record { indices = []; uses = [] }

-- the uses of a port fit it
pub record IsPlanned (rules : List Rule) (inputs : StepOutput) (port : PortDecl) (uses : PortUses) : Type 0 where
  pub mapped : has_indices port.map ≡ true
  pub indices : uses.indices ≡ indices_of port
  pub placed : AllByRecursion (IsPlaced rules inputs uses.indices) uses.uses

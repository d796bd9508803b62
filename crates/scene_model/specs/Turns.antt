-- What the rules of an application put out in one step.
use Rattle.std.specs.Prelude.{ℕ, ◌+◌, ◌-◌, ◌*◌, Bool, false, ◌==◌, ◌&&◌, not, nat_lt, nat_le, int_lt, if◌then◌else◌, List, [], ◌∷◌, map, ℤ, pos, negsuc, ◌+ℤ◌, ◌*ℤ◌, Option, None, Some, unwrap_or}
use Rattle.std.specs.List.{filter_map, flat_map, range_with_len, last_or}
use Rattle.std.specs.Int.{div_ceil, saturate_signed, w64}
use Rattle.std.specs.Cmp.Lexicographic.{pointwise}
use Rattle.music_base.specs.Numbers.{floor_div}
use Rattle.music_base.specs.declared.item.Item.{Item}
use Rattle.music_base.specs.declared.item.Item.TheVariants.{Event, Value, Message}
use Rattle.index_maps.specs.Maps.{maps_index, indices}
use Rattle.index_maps.specs.declared.map.PortMap.{PortMap}
use Rattle.scene_model.specs.Scenes.{no_port}
use Rattle.scene_model.specs.Tables.{StepOutput, value_in}
use Rattle.scene_model.specs.declared.port.PortDecl.{PortDecl}
use Rattle.scene_model.specs.declared.port.PortKind.{PortKind}
use Rattle.scene_model.specs.declared.port.PortKind.TheVariants.{Values}
use Rattle.scene_model.specs.declared.port.Direction.{Direction}
use Rattle.scene_model.specs.declared.port.Direction.TheVariants.{Output, Input}
use Rattle.scene_model.specs.declared.rule.Rule.{Rule}
use Rattle.scene_model.specs.declared.rule.Rule.TheVariants.{EmitAt, EmitEvery, Pass, SetValue, Ramp, CopyValues, When, Say, Reply}

-- ---- names, times and values

abbrev pub same_name : List ℕ → List ℕ → Bool
same_name = pointwise ◌==◌

-- the port of a name
abbrev pub port_named : List PortDecl → List ℕ → PortDecl
port_named [] name = no_port
port_named (port ∷ ports) name = if same_name port.name name then port else port_named ports name

-- the items that stand at the place of the port of a name
abbrev pub items_named : List PortDecl → StepOutput → List ℕ → List Item
items_named [] lists name = []
items_named (port ∷ ports) [] name = []
items_named (port ∷ ports) (items ∷ lists) name = if same_name port.name name then items else items_named ports lists name

-- how many of the times first, first + every, first + 2 * every and so on lie below an end
unfoldable pub times_below : ℕ → ℕ → ℕ → ℕ
times_below every first end = div_ceil (end - first) every

-- those of these times that lie from one time up to another, ascending
unfoldable pub times_between : ℕ → ℕ → ℕ → ℕ → List ℕ
times_between every first from to =
    map (λ i. first + i * every) (range_with_len (times_below every first from) (times_below every first to - times_below every first from))

-- an exact value, as 64 bits hold it: the nearest that they can
unfoldable pub saturated : ℤ → ℤ
saturated z = saturate_signed w64 z

-- ---- the step

-- a step of an application: its ports, its start, its tick, the number of the step, and what its inputs read in it
pub record Moment : Type 0 where
  pub ports : List PortDecl
  pub start : ℕ
  pub tick : ℕ
  pub step : ℕ
  pub inputs : StepOutput

-- the step covers the times from its clock up to its end, which is a tick later
abbrev pub clock_of : Moment → ℕ
clock_of m = m.start + m.step * m.tick

abbrev pub end_of : Moment → ℕ
end_of m = clock_of m + m.tick

abbrev pub is_within : Moment → ℕ → Bool
is_within m time = nat_le (clock_of m) time && nat_lt time (end_of m)

abbrev pub times_within : Moment → ℕ → ℕ → List ℕ
times_within m every first = times_between every first (clock_of m) (end_of m)

-- what the input of a name reads
abbrev pub input_items : Moment → List ℕ → List Item
input_items m name = items_named m.ports m.inputs name

-- what the port of a name maps
abbrev pub map_named : Moment → List ℕ → PortMap
map_named m name = (port_named m.ports name).map

-- the value that an input reads of an index is above v
abbrev pub is_over : Moment → List ℕ → ℕ → ℤ → Bool
is_over m input g v = int_lt v (value_in (input_items m input) g)

-- ---- what a rule emits

abbrev pub event : ℕ → ℕ → Item
event global time = Event (record { time = time; global = global })

abbrev pub message : List ℕ → ℕ → Item
message word time = Message (record { time = time; word = word })

-- an event of this time, where the output maps the index, which may come out below 0
abbrev pub event_mapped : PortMap → ℕ → ℤ → List Item
event_mapped output time (pos g) = if maps_index output g then event g time ∷ [] else []
event_mapped output time (negsuc g) = []

-- an arrival passed on at this time with its index shifted
abbrev pub passed : PortMap → ℕ → ℤ → Item → List Item
passed output time shift (Event e) = event_mapped output time (pos e.global +ℤ shift)
passed _ _ _ _ = []

-- a message said again at this time
abbrev pub replied : ℕ → Item → List Item
replied time (Message m) = message m.word time ∷ []
replied _ _ = []

-- what a rule emits in the step. Of `when` it has to be known whether its value was over in the step before
abbrev pub emitted : Moment → Rule → Bool → List Item
emitted m (EmitAt _ index time) was_over = if is_within m time then event index time ∷ [] else []
emitted m (EmitEvery _ index every first) was_over = map (event index) (times_within m every first)
emitted m (Pass input output shift after) was_over = flat_map (passed (map_named m output) (clock_of m + after) shift) (input_items m input)
emitted m (When input index over _ x) was_over = if is_over m input index over && not was_over then event x (clock_of m) ∷ [] else []
emitted m (Say _ word every first) was_over = map (message word) (times_within m every first)
emitted m (Reply input _ after) was_over = flat_map (replied (clock_of m + after)) (input_items m input)
emitted _ _ _ = []

-- ---- what value a rule gives

-- the value that a rule gives index g in the step. A computed value is exact and then saturates
abbrev pub given : Moment → ℕ → Rule → Option ℤ
given m g (SetValue _ index value) = if index == g then Some value else None
given m g (Ramp _ index start by) = if index == g then Some (saturated (start +ℤ by *ℤ pos m.step)) else None
given m g (CopyValues input _ numerator denominator add) =
    if maps_index (map_named m input) g
    then Some (saturated (floor_div (value_in (input_items m input) g *ℤ numerator) denominator +ℤ add)) else None
given _ _ _ = None

-- ---- the output that a rule writes

abbrev pub target_of : Rule → List ℕ
target_of (EmitAt port _ _) = port
target_of (EmitEvery port _ _ _) = port
target_of (Pass _ output _ _) = output
target_of (SetValue port _ _) = port
target_of (Ramp port _ _ _) = port
target_of (CopyValues _ output _ _ _) = output
target_of (When _ _ _ output _) = output
target_of (Say port _ _ _) = port
target_of (Reply _ output _) = output

-- ---- states

-- a state has for each `when` rule, in order, whether its value was over in the step before. Here each rule stands
-- with its truth value, false at the other rules
abbrev pub with_state : List Rule → List Bool → List (Rule × Bool)
with_state [] state = []
with_state (When input index over output x ∷ rules) (was_over ∷ state) = (When input index over output x, was_over) ∷ with_state rules state
with_state (rule ∷ rules) state = (rule, false) ∷ with_state rules state

-- whether a rule begins as over, and whether it is over in the step. Other rules than `when` have no truth value
abbrev pub over_at_first : Rule → Option Bool
over_at_first (When _ _ _ _ _) = Some false
over_at_first _ = None

abbrev pub over_now : Moment → Rule → Option Bool
over_now m (When input index over _ _) = Some (is_over m input index over)
over_now _ _ = None

-- the state before step 0, in which no rule was over
abbrev pub opening : List Rule → List Bool
opening rules = filter_map over_at_first rules

-- the state after a step, which depends on what that step reads alone
abbrev pub next_state : List Rule → Moment → List Bool
next_state rules m = filter_map (over_now m) rules

-- ---- the turn

-- what all rules emit on a port, in the order of the rules
abbrev pub emissions : Moment → List (Rule × Bool) → List ℕ → List Item
emissions m rules name = flat_map (λ (r : Rule × Bool). if same_name (target_of r.0) name then emitted m r.0 r.1 else []) rules

-- the value of an index of a port: that of the last rule that gives it one, and otherwise 0
abbrev pub value_given : Moment → List Rule → List ℕ → ℕ → ℤ
value_given m rules name g = unwrap_or (last_or None (filter_map (λ r. if same_name (target_of r) name then given m g r else None) rules)) (pos 0)

-- what a port puts out: an event or message output the emissions on it, a continuous output a value for each mapped
-- index, ascending, and an input nothing
abbrev pub port_output : List Rule → List Bool → Moment → Direction → PortKind → PortDecl → List Item
port_output rules state m Input kind port = []
port_output rules state m Output Values port = map (λ g. Value g (value_given m rules port.name g)) (indices port.map)
port_output rules state m Output _ port = emissions m (with_state rules state) port.name

-- the step output that the rules make in a state
unfoldable pub turn : List Rule → List Bool → Moment → StepOutput
turn rules state m = map (λ (port : PortDecl). port_output rules state m port.direction port.kind port) m.ports

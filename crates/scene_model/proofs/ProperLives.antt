-- The lives of applications without a fault make a proper table.
use Rattle.std.proofs.Common.{◌≡◌, ℕ, ◌+◌, ◌<◌, ◌≤◌, Bool, true, not, ◌&&◌, List, [], ◌∷◌, length, refl, sym, ap, subst, ◌∙◌, arith, ℤ, pos, negsuc, ◌+ℤ◌}
use Rattle.std.specs.Prelude.{⊤, nat_le, nat_lt, slice_index_or, map}
use Rattle.std.specs.List.{AllByRecursion}
use Rattle.std.proofs.lemmas.Bool.{and_parts, leb-true, ltb-true}
use Rattle.std.proofs.lemmas.List.{length-map, get_or-map}
use Rattle.std.proofs.lemmas.List.FromFn.{length-map-range_with_len, get_or-map-range_with_len}
use Rattle.music_base.specs.declared.item.Item.{Item}
use Rattle.music_base.specs.declared.item.Item.TheVariants.{Event, Value, Message}
use Rattle.music_base.specs.Items.{AreValues, IsMessageWithin}
use Rattle.music_base.proofs.Lists.{All-flat_map_of, All-map, All-weaker, All-when}
use Rattle.index_maps.specs.Maps.{indices, maps_index}
use Rattle.scene_model.specs.Clocks.{span, tick, steps, clock}
use Rattle.scene_model.specs.Faults.{IsApp, IsFaultless}
use Rattle.scene_model.specs.Lives.{again, life, moment, state_before, step_output}
use Rattle.scene_model.specs.Ports.{names_differ}
use Rattle.scene_model.specs.Rules.{runs_for}
use Rattle.scene_model.specs.Scenes.{app_at, no_port, port_at}
use Rattle.scene_model.specs.Tables.{IsEventWithin, IsProper, IsProperBlock, StepOutput, Table, step_of, steps_of}
use Rattle.scene_model.specs.Turns.{Moment, clock_of, emissions, emitted, end_of, event, event_mapped, input_items, is_over, is_within, message, passed, port_named, port_output, replied, same_name, target_of, times_within, turn, value_given, with_state}
use Rattle.scene_model.specs.declared.port.Direction.{Direction}
use Rattle.scene_model.specs.declared.port.Direction.TheVariants.{Output, Input}
use Rattle.scene_model.specs.declared.port.PortDecl.{PortDecl}
use Rattle.scene_model.specs.declared.port.PortKind.{PortKind}
use Rattle.scene_model.specs.declared.port.PortKind.TheVariants.{Events, Values, Messages}
use Rattle.scene_model.specs.declared.rule.Rule.{Rule}
use Rattle.scene_model.specs.declared.rule.Rule.TheVariants.{CopyValues, EmitAt, EmitEvery, Pass, Ramp, Reply, Say, SetValue, When}
use Rattle.scene_model.specs.declared.scene.Scene.{Scene}
use Rattle.scene_model.proofs.Emissions.{emissions-each, port_named-at}
use Rattle.scene_model.proofs.Faultless.{app_is}
use Rattle.scene_model.proofs.RuleCases.{HasPort, IsRule, are_rules}
use Rattle.scene_model.proofs.Times.{times_between-within}

-- a value for each of some indices
pub are_values : (f : ℕ → ℤ) (gs : List ℕ) → AreValues gs (map (λ g. Value g (f g)) gs)
are_values f [] = tt
are_values f (g ∷ gs) = (refl, are_values f gs)

-- ---- what a rule emits

module _ (m : Moment) (ticks : 1 ≤ m.tick) where
  abbrev IsInside : ℕ → Type 0
  IsInside time = (clock_of m ≤ time) × (time < end_of m)

  -- what may be emitted in the step on a port of a kind
  abbrev IsOf : PortKind → PortDecl → Item → Type 0
  IsOf Events port item = IsEventWithin port (clock_of m) (end_of m) item
  IsOf Messages port item = IsMessageWithin (clock_of m) (end_of m) item
  IsOf Values port item = ⊤

  abbrev AreOf : PortKind → PortDecl → List Item → Type 0
  AreOf kind port = AllByRecursion (IsOf kind port)

  soon : (after : ℕ) → after < m.tick → IsInside (clock_of m + after)
  soon after early = (omega arith, omega arith)

  each_period : (every first : ℕ) → 1 ≤ every → AllByRecursion IsInside (times_within m every first)
  each_period every first some = times_between-within every first (clock_of m) (end_of m) some

  mapped_event : (port : PortDecl) (time : ℕ) (z : ℤ) → IsInside time → AreOf Events port (event_mapped port.map time z)
  mapped_event port time (pos g) inside =
      All-when (IsOf Events port) (maps_index port.map g) (event g time ∷ []) (λ mapped. ((inside.0, inside.1, mapped), tt))
  mapped_event port time (negsuc g) inside = tt

  passed_event : (port : PortDecl) (time : ℕ) (shift : ℤ) → IsInside time → (item : Item) → AreOf Events port (passed port.map time shift item)
  passed_event port time shift inside (Event e) = mapped_event port time (pos e.global +ℤ shift) inside
  passed_event port time shift inside item = tt

  reply : (port : PortDecl) (time : ℕ) → IsInside time → (item : Item) → AreOf Messages port (replied time item)
  reply port time inside (Message said) = (inside, tt)
  reply port time inside item = tt

  on_port : (name : List ℕ) (kind : PortKind) (items : List Item) → HasPort m.ports name Output kind
      → AreOf kind (port_named m.ports name) items → AreOf (port_named m.ports name).kind (port_named m.ports name) items
  on_port name kind items has all = rw has.is_kind all

  emits : (rule : Rule) (was_over : Bool) → IsRule m.ports m.tick rule
      → AreOf (port_named m.ports (target_of rule)).kind (port_named m.ports (target_of rule)) (emitted m rule was_over)
  emits (EmitAt port index time) was_over (has, mapped) =
      on_port port Events _ has (All-when (IsOf Events (port_named m.ports port)) (is_within m time) (event index time ∷ []) (λ within.
      let parts = and_parts (nat_le (clock_of m) time) (nat_lt time (end_of m)) within in
      ((leb-true _ _ parts.0, ltb-true _ _ parts.1, mapped), tt)))
  emits (EmitEvery port index every first) was_over (has, mapped, some) =
      let to : PortDecl = port_named m.ports port in
      on_port port Events _ has (All-map (IsOf Events to) (event index) (times_within m every first)
      (All-weaker IsInside (λ t. IsOf Events to (event index t)) (λ t inside. (inside.0, inside.1, mapped))
      (times_within m every first) (each_period every first some)))
  emits (Pass input output shift after) was_over (from, has, early) =
      let to : PortDecl = port_named m.ports output in
      on_port output Events _ has (All-flat_map_of (IsOf Events to) (passed to.map (clock_of m + after) shift)
      (passed_event to (clock_of m + after) shift (soon after early)) (input_items m input))
  emits (When input index over output x) was_over (from, there, has, mapped) =
      let to : PortDecl = port_named m.ports output in
      on_port output Events _ has
      (All-when (IsOf Events to) (is_over m input index over && not was_over) (event x (clock_of m) ∷ []) (λ rises. ((omega arith, omega arith, mapped), tt)))
  emits (Say port word every first) was_over (has, some) =
      on_port port Messages _ has
      (All-map (IsOf Messages (port_named m.ports port)) (message word) (times_within m every first) (each_period every first some))
  emits (Reply input output after) was_over (from, has, early) =
      let to : PortDecl = port_named m.ports output in
      on_port output Messages _ has (All-flat_map_of (IsOf Messages to) (replied (clock_of m + after))
      (reply to (clock_of m + after) (soon after early)) (input_items m input))
  emits (SetValue port index value) was_over is = tt
  emits (Ramp port index start by) was_over is = tt
  emits (CopyValues input output numerator denominator add) was_over is = tt

  -- ---- what a turn puts out

  module _ (rules : List Rule) (are : AllByRecursion (IsRule m.ports m.tick) rules) (state : List Bool)
      (differ : names_differ m.ports ≡ true) (p : ℕ) (lt : p < length m.ports) where
    abbrev port : PortDecl
    port = slice_index_or m.ports p no_port

    may_emit : (kind : PortKind) → port.kind ≡ kind → AreOf kind port (emissions m (with_state rules state) port.name)
    may_emit kind is = emissions-each (IsOf kind port) (IsRule m.ports m.tick) m rules state port.name each are
      where
        each : (rule : Rule) (was_over : Bool) → IsRule m.ports m.tick rule → same_name (target_of rule) port.name ≡ true
            → AreOf kind port (emitted m rule was_over)
        each rule was_over is_rule same =
            let it : port_named m.ports (target_of rule) ≡ port = port_named-at m.ports p (target_of rule) differ lt same in
            subst (λ kind. AreOf kind port (emitted m rule was_over)) is
            (subst (λ (q : PortDecl). AreOf q.kind q (emitted m rule was_over)) it (emits rule was_over is_rule))

    proper_by : (direction : Direction) (kind : PortKind) → port.kind ≡ kind
        → IsProperBlock direction kind port (clock_of m) (end_of m) (port_output rules state m direction kind port)
    proper_by Input kind is = refl
    proper_by Output Values is = are_values (value_given m rules port.name) (indices port.map)
    proper_by Output Events is = may_emit Events is
    proper_by Output Messages is = may_emit Messages is

    -- whatever its inputs read, and whatever the state
    pub turn_is_proper : IsProperBlock port.direction port.kind port (clock_of m) (end_of m) (slice_index_or (turn rules state m) p [])
    unfolding turn
    turn_is_proper =
        let at : slice_index_or (turn rules state m) p [] ≡ port_output rules state m port.direction port.kind port =
        get_or-map (λ (q : PortDecl). port_output rules state m q.direction q.kind q) m.ports p no_port [] lt in
        rw at (proper_by port.direction port.kind refl)

-- ---- where things stand in a table of lives

module _ (scene : Scene) (table : Table) where
  pub length-again : length (again scene table) ≡ length scene.apps
  length-again = length-map-range_with_len (life scene table) 0 (length scene.apps)

  pub steps_of-again : (a : ℕ) → a < length scene.apps → steps_of (again scene table) a ≡ life scene table a
  steps_of-again a app = get_or-map-range_with_len (life scene table) 0 (length scene.apps) a a [] app (omega arith)

  pub length-steps_of : (a : ℕ) → a < length scene.apps → length (steps_of (again scene table) a) ≡ steps scene a
  length-steps_of a app = ap length (steps_of-again a app) ∙ length-map-range_with_len (step_output scene table a) 0 (steps scene a)

  pub step_of-again : (a k : ℕ) → a < length scene.apps → k < length (steps_of (again scene table) a)
      → step_of (again scene table) a k ≡ step_output scene table a k
  step_of-again a k app small = ap (λ (row : List StepOutput). slice_index_or row k []) (steps_of-again a app)
      ∙ get_or-map-range_with_len (step_output scene table a) 0 (steps scene a) k k [] (omega (arith, length-steps_of a app)) (omega arith)

  pub length-step_output : (a k : ℕ) → length (step_output scene table a k) ≡ length (app_at scene a).ports
  unfolding step_output turn
  length-step_output a k = length-map (app_at scene a).ports _

  module _ (faultless : IsFaultless scene) where
    -- the output is proper at port p of application a in step k
    abbrev IsProperAt : ℕ → ℕ → ℕ → StepOutput → Type 0
    IsProperAt a k p output =
        let port : PortDecl = port_at scene a p in
        IsProperBlock port.direction port.kind port (clock scene a k) (clock scene a (k + 1)) (slice_index_or output p [])

    pub step_is_proper : (a k p : ℕ) → a < length scene.apps → p < length (app_at scene a).ports → IsProperAt a k p (step_output scene table a k)
    unfolding step_output tick
    step_is_proper a k p app lt =
        let is : IsApp (app_at scene a) = app_is scene faultless a app in
        let port : PortDecl = port_at scene a p in
        let lasts : ℕ = runs_for (span (app_at scene a)) (app_at scene a).tick in
        let are : AllByRecursion (IsRule (app_at scene a).ports (app_at scene a).tick) (app_at scene a).rules =
        are_rules (app_at scene a).ports (app_at scene a).tick lasts (app_at scene a).rules is.rules.stand in
        let end : clock scene a k + tick scene a ≡ clock scene a (k + 1) = omega arith in
        subst (λ to. IsProperBlock port.direction port.kind port (clock scene a k) to (slice_index_or (step_output scene table a k) p [])) end
        (turn_is_proper (moment scene table a k) is.tick.0 (app_at scene a).rules are (state_before scene table a k) is.ports.differ p lt)

    pub again-proper : IsProper scene (again scene table)
    again-proper = record {
      apps = length-again;
      steps = λ a app. omega (arith, length-steps_of a app);
      ports = λ a k app small. ap length (step_of-again a k app small) ∙ length-step_output a k;
      blocks = λ a k p app small lt. subst (IsProperAt a k p) (sym (step_of-again a k app small)) (step_is_proper a k p app lt);
    }

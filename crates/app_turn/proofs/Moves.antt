-- What a step of a machine keeps, and what it gives.
use Rattle.std.proofs.Common.{ℕ, suc, ◌+◌, ◌*◌, ◌<◌, ◌≤◌, ◌≡◌, ◌⊎◌, inl, inr, refl, sym, ◌∙◌, ap, subst, arith, min, Bool, true, false, List, [], ◌∷◌, length, nat_lt, Option, None, Some}
use Rattle.std.specs.Prelude.{slice_index, slice_index_or, IfSome, if◌then◌else◌}
use Rattle.std.proofs.lemmas.Bool.{cases_lt, lt-ltb, le-ltb}
use Rattle.music_base.specs.declared.item.Block.{Block}
use Rattle.scene_model.specs.Clocks.{span, start, tick, wanted, wanted_blocks}
use Rattle.scene_model.specs.Faults.{IsApp, IsFaultless}
use Rattle.scene_model.specs.Lives.{inputs, moment, state_before, step_output}
use Rattle.scene_model.specs.Logs.{step_rows}
use Rattle.scene_model.specs.Orders.{EachTo, EachFrom}
use Rattle.scene_model.specs.Ports.{IsPort, has_indices}
use Rattle.scene_model.specs.Rules.{runs_for}
use Rattle.scene_model.specs.declared.port.PortDecl.{PortDecl}
use Rattle.rule_turns.specs.Plans.{turn_plan, whens_from}
use Rattle.rule_turns.specs.Turning.{AreInputs, CanTurn}
use Rattle.rule_turns.specs.declared.plan.TurnPlan.{TurnPlan}
use Rattle.std.specs.List.{AllByRecursion, list_all}
use Rattle.scene_model.specs.Scenes.{app_at, link_at, output_of, receiver, sender}
use Rattle.scene_model.specs.Tables.{IsProperBlock, StepOutput, Table}
use Rattle.scene_model.specs.Turns.{Moment, next_state, opening, turn}
use Rattle.scene_model.specs.declared.scene.Scene.{Scene}
use Rattle.scene_model.specs.declared.row.Row.{Row}
use Rattle.scene_model.specs.declared.scene.AppDecl.{AppDecl}
use Rattle.scene_model.specs.declared.rule.Rule.{Rule}
use Rattle.scene_model.specs.declared.rule.Rule.TheVariants.{EmitAt, EmitEvery, Pass, SetValue, Ramp, CopyValues, When, Say, Reply}
use Rattle.scene_model.specs.declared.port.Direction.TheVariants.{Output}
use Rattle.scene_model.proofs.Faultless.{app_is, connection_is, steps_are}
use Rattle.app_turn.proofs.Fitting.{fits}
use Rattle.scene_model.proofs.RuleCases.{are_rules}
use Rattle.scene_model.proofs.ProperLives.{turn_is_proper}
use Rattle.scene_model.proofs.StepRows.{rows_same}
use Rattle.app_turn.specs.Machines.{Follows, IsPendingAt, Machine, WantsRun, life_block, put_by}
use Rattle.app_turn.specs.Moves.{Ran}
use Rattle.port_buffers.specs.Shapes.{FitsShape}
use Rattle.app_turn.specs.Shapes.{shape}
use Rattle.scene_model.specs.Logs.{step_rows_in}
use Rattle.app_turn.specs.PortInboxes.{AreKept, HoldsAt, IsSettled, WantedAt, inbox_at, waiting_in}
use Rattle.app_turn.specs.Steps.{IsMachine, IsStep, Parts, block_for, moment_of}
use Rattle.app_turn.specs.declared.inbox.PortInbox.{PortInbox}
use Rattle.app_turn.specs.declared.step.Step.{Step}
use Rattle.app_turn.proofs.Places.{by_place, into_listed, out_listed}
use Rattle.app_turn.proofs.Keeping.{are_after, holds_at, kept_after, waiting_same, wanted_at}

-- what a turn puts out fits the connection, whatever its inputs read
pub turn_fits : (scene : Scene) → IsFaultless scene → (c k : ℕ) → c < length scene.links → (state : List Bool) (items : StepOutput)
    → FitsShape (shape scene c) (record { number = k; items = slice_index_or (turn (app_at scene (sender scene c)).rules state (moment_of scene (sender scene c) k items)) (link_at scene c).from_port [] })
unfolding tick start
turn_fits scene fine c k small state items =
    let link = connection_is scene fine c small in
    let app : AppDecl = app_at scene (sender scene c) in
    let is = app_is scene fine (sender scene c) link.from_app in
    let m : Moment = moment_of scene (sender scene c) k items in
    let at = turn_is_proper (moment_of scene (sender scene c) k items) is.tick.0 (app_at scene (sender scene c)).rules (are_rules (app_at scene (sender scene c)).ports (app_at scene (sender scene c)).tick (runs_for (span (app_at scene (sender scene c))) (app_at scene (sender scene c)).tick) (app_at scene (sender scene c)).rules is.rules.stand) state is.ports.differ (link_at scene c).from_port link.from_port in
    let e : (app_at scene (sender scene c)).start + k * (app_at scene (sender scene c)).tick + (app_at scene (sender scene c)).tick ≡ (app_at scene (sender scene c)).start + (k + 1) * (app_at scene (sender scene c)).tick = omega arith in
    let out : IsProperBlock Output (output_of scene c).kind (output_of scene c) ((app_at scene (sender scene c)).start + k * (app_at scene (sender scene c)).tick) ((app_at scene (sender scene c)).start + (k + 1) * (app_at scene (sender scene c)).tick)
    (slice_index_or (turn (app_at scene (sender scene c)).rules state (moment_of scene (sender scene c) k items)) (link_at scene c).from_port []) = rw (link.from_output, e) at at in
    fits scene c k (slice_index_or (turn (app_at scene (sender scene c)).rules state (moment_of scene (sender scene c) k items)) (link_at scene c).from_port []) out

-- rows of what was read are those of the table
rows_are : (scene : Scene) (table : Table) (b j : ℕ) (items : StepOutput) (rows : List Row) → rows ≡ step_rows_in scene b j items → items ≡ inputs scene table b j → rows ≡ step_rows scene table b j
rows_are scene table b j items rows is reads = is ∙ ap (step_rows_in scene b j) reads ∙ sym (rows_same scene table b j)

moment_is : (scene : Scene) (table : Table) (b j : ℕ) (items : StepOutput) → items ≡ inputs scene table b j → moment_of scene b j items ≡ moment scene table b j
unfolding tick start
moment_is scene table b j items reads = ap (moment_of scene b j) reads

length-next : (rules : List Rule) (m : Moment) → length (next_state rules m) ≡ length (opening rules)
length-next [] m = refl
length-next (EmitAt _ _ _ ∷ rules) m = length-next rules m
length-next (EmitEvery _ _ _ _ ∷ rules) m = length-next rules m
length-next (Pass _ _ _ _ ∷ rules) m = length-next rules m
length-next (SetValue _ _ _ ∷ rules) m = length-next rules m
length-next (Ramp _ _ _ _ ∷ rules) m = length-next rules m
length-next (CopyValues _ _ _ _ _ ∷ rules) m = length-next rules m
length-next (When _ _ _ _ _ ∷ rules) m = ap suc (length-next rules m)
length-next (Say _ _ _ _ ∷ rules) m = length-next rules m
length-next (Reply _ _ _ ∷ rules) m = length-next rules m

-- a state has a truth value for each `when` rule
whens_count : (ports : List PortDecl) (r n : ℕ) (rules : List Rule) → length (whens_from ports r n rules) ≡ length (opening rules)
whens_count ports r n [] = refl
whens_count ports r n (EmitAt _ _ _ ∷ rules) = whens_count ports (r + 1) (n + 0) rules
whens_count ports r n (EmitEvery _ _ _ _ ∷ rules) = whens_count ports (r + 1) (n + 0) rules
whens_count ports r n (Pass _ _ _ _ ∷ rules) = whens_count ports (r + 1) (n + 0) rules
whens_count ports r n (SetValue _ _ _ ∷ rules) = whens_count ports (r + 1) (n + 0) rules
whens_count ports r n (Ramp _ _ _ _ ∷ rules) = whens_count ports (r + 1) (n + 0) rules
whens_count ports r n (CopyValues _ _ _ _ _ ∷ rules) = whens_count ports (r + 1) (n + 0) rules
whens_count ports r n (When _ _ _ _ _ ∷ rules) = ap suc (whens_count ports (r + 1) (n + 1) rules)
whens_count ports r n (Say _ _ _ _ ∷ rules) = whens_count ports (r + 1) (n + 0) rules
whens_count ports r n (Reply _ _ _ ∷ rules) = whens_count ports (r + 1) (n + 0) rules

pub plan_whens : (ports : List PortDecl) (rules : List Rule) (plan : TurnPlan) (state : List Bool) → plan ≡ turn_plan ports rules → length state ≡ length (opening rules) → length state ≡ length plan.whens
unfolding turn_plan
plan_whens ports rules plan state is count = count ∙ sym (ap (λ (q : TurnPlan). length q.whens) is ∙ whens_count ports 0 0 rules)

-- an application without a fault can turn
all_mapped : (np : ℕ) (ports : List PortDecl) → AllByRecursion (IsPort np) ports → list_all (λ (port : PortDecl). has_indices port.map) ports ≡ true
all_mapped np [] h = refl
all_mapped np (port ∷ ports) h = rw (h.0.indices, all_mapped np ports h.1) refl

pub can_turn : (app : AppDecl) → IsApp app → CanTurn app.ports app.tick app.rules
can_turn app is = record { lasts = runs_for (span app) app.tick; stand = is.rules; differ = is.ports.differ; mapped = all_mapped app.np app.ports is.ports.each }

abbrev pub with_step : Machine → List Bool → List (List Block) → List (Option Block) → Machine
with_step m state waiting pending = record m { ran = m.ran + 1; state = state; waiting = waiting; pending = pending }

module _ (m : Machine) (x : Parts) (is : IsMachine m x) where
  -- what contracts see of the x.inboxes, and what a followed table has
  pub follow_kept : (table : Table) → Follows m table → AreKept m.scene m.app m.ran m.taken (waiting_in m.scene m.app m.ran x.inboxes x.places) table
  follow_kept table f = record { there = f.there; keeps = rw is.seen at f.keeps }

  pub follow_holds : (table : Table) → Follows m table → (p : ℕ) → p < length x.inboxes → HoldsAt m.scene m.app p m.ran (inbox_at x.inboxes p) table
  follow_holds table f = holds_at m.scene is.faultless m.app m.ran m.taken x.places x.inboxes is.inboxes_are table (follow_kept table f)

  module _ (wants : WantsRun m) (after : List PortInbox) (counted : length after ≡ length x.inboxes) (settled : (p : ℕ) → p < length x.inboxes → IsSettled m.ran (inbox_at x.inboxes p) (inbox_at after p)) where
    -- a delivery alone does not show
    pub delivered_is : IsMachine (record m { waiting = waiting_in m.scene m.app m.ran after x.places }) (record x { inboxes = after })
    delivered_is = record {
      faultless = is.faultless;
      here = is.here;
      all_steps = is.all_steps;
      within = is.within;
      puts = is.puts;
      takes = is.takes;
      pendings = is.pendings;
      need_count = is.need_count;
      most_count = is.most_count;
      place_count = is.place_count;
      truth_count = is.truth_count;
      planned = is.planned;
      comes_in = is.comes_in;
      paced = is.paced;
      goes_out = is.goes_out;
      each_need = is.each_need;
      each_most = is.each_most;
      inboxes_are = are_after m.scene is.faultless m.app m.ran m.taken x.places x.inboxes is.inboxes_are after counted settled m.ran (omega arith);
      seen = refl;
      owed = is.owed;
    }

    pub delivered_view : waiting_in m.scene m.app m.ran after x.places ≡ waiting_in m.scene m.app m.ran x.inboxes x.places
    delivered_view = waiting_same m.scene is.faultless m.app m.ran m.taken x.places x.inboxes is.inboxes_are after counted settled

    pub delivered_same : record m { waiting = waiting_in m.scene m.app m.ran after x.places } ≡ m
    delivered_same = ap (λ (w : List (List Block)). record m { waiting = w }) (delivered_view ∙ sym is.seen)

    -- the step was made, and then the state, the needs and the blocks were written
    module _ (s : Step) (made : IsStep m.scene m.app m.ran x.most x.out m.state x.inboxes s) (state : List Bool) (next : state ≡ next_state (app_at m.scene m.app).rules (moment_of m.scene m.app m.ran s.inputs.items))
        (needs : List ℕ) (need_count : length needs ≡ length m.scene.links) (each_need : EachTo m.scene m.app (λ c. slice_index needs c ≡ wanted m.scene c (m.ran + 1)))
        (pending : List (Option Block)) (pendings : length pending ≡ length m.scene.links) (written : EachFrom m.scene m.app (λ c. slice_index_or pending c None ≡ block_for m.scene m.ran made.outputs (slice_index x.most c) c)) where
      abbrev wait : List (List Block)
      wait = waiting_in m.scene m.app (m.ran + 1) after x.places

      block_is : (c : ℕ) → c < length m.scene.links → sender m.scene c ≡ m.app → slice_index_or pending c None ≡ block_for m.scene m.ran made.outputs (wanted_blocks m.scene c) c
      block_is c link from = written c link from ∙ ap (λ n. block_for m.scene m.ran made.outputs n c) (is.each_most c link from)

      fits_here : (c : ℕ) → c < length m.scene.links → sender m.scene c ≡ m.app → FitsShape (shape m.scene c) (record { number = m.ran; items = slice_index_or made.outputs (link_at m.scene c).from_port [] })
      fits_here c link from =
          let f = turn_fits m.scene is.faultless c m.ran link m.state s.inputs.items in
          let e : made.outputs ≡ turn (app_at m.scene (sender m.scene c)).rules m.state (moment_of m.scene (sender m.scene c) m.ran s.inputs.items) = made.gives ∙ ap (λ a. turn (app_at m.scene a).rules m.state (moment_of m.scene a m.ran s.inputs.items)) (sym from) in
          subst (λ (o : StepOutput). FitsShape (shape m.scene c) (record { number = m.ran; items = slice_index_or o (link_at m.scene c).from_port [] })) (sym e) f

      pub ran_is : IsMachine (with_step m state wait pending) (record x { needs = needs; inboxes = after })
      ran_is = record {
        faultless = is.faultless;
        here = is.here;
        all_steps = is.all_steps;
        within = omega (arith, wants.step_left, is.all_steps);
        puts = is.puts;
        takes = is.takes;
        pendings = pendings;
        comes_in = is.comes_in;
        paced = is.paced;
        goes_out = is.goes_out;
        need_count = need_count;
        most_count = is.most_count;
        place_count = is.place_count;
        truth_count = ap (λ (t : List Bool). length t) next ∙ length-next (app_at m.scene m.app).rules (moment_of m.scene m.app m.ran s.inputs.items);
        planned = is.planned;
        each_need = each_need;
        each_most = is.each_most;
        inboxes_are = are_after m.scene is.faultless m.app m.ran m.taken x.places x.inboxes is.inboxes_are after counted settled (m.ran + 1) (omega arith);
        seen = refl;
        owed = λ c link from. rw block_is (at c link from (wants.all_put c link from) (cases_lt m.ran (wanted_blocks m.scene c)));
      }
        where
          at : (c : ℕ) → c < length m.scene.links → sender m.scene c ≡ m.app → put_by m c ≡ min m.ran (wanted_blocks m.scene c) → (m.ran < wanted_blocks m.scene c) ⊎ (wanted_blocks m.scene c ≤ m.ran)
              → IsPendingAt m.scene c (m.ran + 1) (put_by m c) (block_for m.scene m.ran made.outputs (wanted_blocks m.scene c) c)
          at c link from all (inl l) = rw (lt-ltb _ _ l) (omega arith, omega arith, omega arith, fits_here c link from)
          at c link from all (inr g) = rw (le-ltb _ _ g) (omega arith)

      reads_are : (table : Table) → Follows m table → s.inputs.items ≡ inputs m.scene table m.app m.ran
      reads_are table f = made.reads table f.proper (follow_holds table f)

      only_some : (test : Bool) (y b : Block) → (if test then Some y else None) ≡ Some b → y ≡ b
      only_some true y b e = cc
      only_some false y b e = cc

      abbrev made_block : ℕ → Block
      made_block c = record { number = m.ran; items = slice_index_or made.outputs (link_at m.scene c).from_port [] }

      equal : (c d : ℕ) → (link_at m.scene c).from_port ≡ (link_at m.scene d).from_port → (y z : Block)
          → block_for m.scene m.ran made.outputs (wanted_blocks m.scene c) c ≡ Some y → block_for m.scene m.ran made.outputs (wanted_blocks m.scene d) d ≡ Some z → y ≡ z
      equal c d same y z is_y is_z =
          sym (only_some (nat_lt m.ran (wanted_blocks m.scene c)) (made_block c) y is_y)
          ∙ ap (λ p. record { number = m.ran; items = slice_index_or made.outputs p [] }) same
          ∙ only_some (nat_lt m.ran (wanted_blocks m.scene d)) (made_block d) z is_z

      outputs_are : (table : Table) → Follows m table → made.outputs ≡ step_output m.scene table m.app m.ran
      unfolding step_output
      outputs_are table f = made.gives ∙ ap (λ (t : List Bool). turn (app_at m.scene m.app).rules t (moment_of m.scene m.app m.ran s.inputs.items)) f.truths ∙ ap (turn (app_at m.scene m.app).rules (state_before m.scene table m.app m.ran)) (moment_is m.scene table m.app m.ran s.inputs.items (reads_are table f))

      truths_are : (table : Table) → Follows m table → state ≡ state_before m.scene table m.app (m.ran + 1)
      truths_are table f =
          let e : m.ran + 1 ≡ suc m.ran = omega arith in
          next ∙ ap (next_state (app_at m.scene m.app).rules) (moment_is m.scene table m.app m.ran s.inputs.items (reads_are table f)) ∙ ap (state_before m.scene table m.app) (sym e)

      owed_at : (table : Table) → Follows m table → (c : ℕ) → sender m.scene c ≡ m.app → (b : Bool)
          → IfSome (if b then Some (record { number = m.ran; items = slice_index_or made.outputs (link_at m.scene c).from_port [] }) else None) (λ (y : Block). y.items ≡ life_block m.scene table c y.number)
      owed_at table f c from true = rw from (ap (λ (o : StepOutput). slice_index_or o (link_at m.scene c).from_port []) (outputs_are table f))
      owed_at table f c from false = tt

      pub ran : Ran m (with_step m state wait pending) s.rows
      ran = record {
        same_scene = refl;
        same_app = refl;
        same_put = refl;
        same_taken = refl;
        counts = refl;
        follows = λ table f. let k = kept_after m.scene is.faultless m.app m.ran m.taken x.places x.inboxes is.inboxes_are after counted settled table (follow_kept table f) (m.ran + 1) (omega arith) in record {
          proper = f.proper;
          there = k.there;
          keeps = k.keeps;
          truths = truths_are table f;
          owed = λ c link from. rw block_is (owed_at table f c from (nat_lt m.ran (wanted_blocks m.scene c)));
        };
        are_rows = λ table f. rows_are m.scene table m.app m.ran s.inputs.items s.rows made.rows_are (reads_are table f);
        shared = λ c d at there from out same y z is_y is_z. equal c d same y z (sym (block_is c at from) ∙ is_y) (sym (block_is d there out) ∙ is_z);
      }

  pub steps_small : WantsRun m → m.ran < 1_000_000
  steps_small wants = omega (arith, wants.step_left, steps_are m.scene is.faultless m.app is.here)

  pub inboxes_wanted : WantsRun m → (p : ℕ) → p < length x.inboxes → WantedAt m.scene m.app p m.ran (inbox_at x.inboxes p)
  inboxes_wanted wants = wanted_at m.scene is.faultless m.app m.ran m.taken x.places x.inboxes is.inboxes_are wants.all_taken

  pub next_small : WantsRun m → m.ran + 1 ≤ 1_000_000
  next_small wants = let small = steps_small wants in omega (arith, small)

  -- what was written for each of the connections that are listed was written for each of its own
  pub each_needed : (needs : List ℕ) (j : ℕ) → ((i : ℕ) → i < length x.into → slice_index needs (slice_index x.into i) ≡ wanted m.scene (slice_index x.into i) j) → EachTo m.scene m.app (λ c. slice_index needs c ≡ wanted m.scene c j)
  each_needed needs j each = (by_place (receiver m.scene) m.app (length m.scene.links) x.into (into_listed m.scene m.app x.into is.comes_in) (λ c. slice_index needs c ≡ wanted m.scene c j)).0 each

  pub each_owed : (pending : List (Option Block)) (f : ℕ → Option Block) → ((i : ℕ) → i < length x.out → slice_index_or pending (slice_index x.out i) None ≡ f (slice_index x.out i)) → EachFrom m.scene m.app (λ c. slice_index_or pending c None ≡ f c)
  each_owed pending f each = (by_place (sender m.scene) m.app (length m.scene.links) x.out (out_listed m.scene m.app x.out is.goes_out) (λ c. slice_index_or pending c None ≡ f c)).0 each

  -- the state after a step, of what it read
  pub moved_on : (rules : List Rule) (plan : TurnPlan) (items : StepOutput) (state : List Bool) → rules ≡ (app_at m.scene m.app).rules → plan ≡ x.plan → AreInputs (app_at m.scene m.app).ports items
      → ((n : Moment) → CanTurn n.ports n.tick rules → AreInputs n.ports n.inputs → plan ≡ turn_plan n.ports rules → n.inputs ≡ items → state ≡ next_state rules n)
      → state ≡ next_state (app_at m.scene m.app).rules (moment_of m.scene m.app m.ran items)
  moved_on rules plan items state is_rules is_plan shaped moves =
      let can : CanTurn (app_at m.scene m.app).ports (app_at m.scene m.app).tick rules = subst (CanTurn (app_at m.scene m.app).ports (app_at m.scene m.app).tick) (sym is_rules) (can_turn (app_at m.scene m.app) (app_is m.scene is.faultless m.app is.here)) in
      let planned : plan ≡ turn_plan (app_at m.scene m.app).ports rules = is_plan ∙ is.planned ∙ ap (turn_plan (app_at m.scene m.app).ports) (sym is_rules) in
      moves (moment_of m.scene m.app m.ran items) can shaped planned refl ∙ ap (λ rs. next_state rs (moment_of m.scene m.app m.ran items)) is_rules

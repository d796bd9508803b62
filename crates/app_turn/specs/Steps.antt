-- What one step makes, and what is true of the parts of a machine.
use Rattle.std.specs.Prelude.{ℕ, Bool, ◌<◌, ◌≤◌, ◌≡◌, List, [], length, map, nat_lt, if◌then◌else◌, Option, None, Some, slice_index, slice_index_or}
use Rattle.music_base.specs.declared.item.Block.{Block}
use Rattle.scene_model.specs.Clocks.{steps, wanted, wanted_blocks}
use Rattle.scene_model.specs.Faults.{IsFaultless}
use Rattle.scene_model.specs.Lives.{inputs}
use Rattle.scene_model.specs.Logs.{step_rows_in}
use Rattle.scene_model.specs.Orders.{EachFrom, EachTo}
use Rattle.scene_model.specs.Scenes.{app_at, link_at}
use Rattle.scene_model.specs.Tables.{IsProper, StepOutput, Table}
use Rattle.scene_model.specs.Turns.{Moment, opening, turn}
use Rattle.scene_model.specs.declared.scene.Scene.{Scene}
use Rattle.rule_turns.specs.Plans.{turn_plan}
use Rattle.rule_turns.specs.Turning.{AreInputs}
use Rattle.rule_turns.specs.declared.plan.TurnPlan.{TurnPlan}
use Rattle.app_turn.specs.Machines.{IsPendingAt, Machine, pending_on, put_by}
use Rattle.app_turn.specs.OwnLinks.{into_of, out_of}
use Rattle.app_turn.specs.Paces.{pace_of}
use Rattle.app_turn.specs.PortInboxes.{AreInboxes, HoldsAt, inbox_at, waiting_in}
use Rattle.app_turn.specs.declared.inbox.PortInbox.{PortInbox}
use Rattle.app_turn.specs.declared.needs.Pace.{Pace}
use Rattle.app_turn.specs.declared.step.Step.{Step}

-- ---- one step

-- step j of application a, whose inputs read these items
abbrev pub moment_of : Scene → ℕ → ℕ → StepOutput → Moment
moment_of scene a j items = record {
  ports = (app_at scene a).ports;
  start = (app_at scene a).start;
  tick = (app_at scene a).tick;
  step = j;
  inputs = items;
}

-- the output at which the connection at a place of a list begins
abbrev pub begins_at : Scene → List ℕ → ℕ → ℕ
begins_at scene out i = (link_at scene (slice_index out i)).from_port

-- the block of step j for connection c, of which so many blocks are wanted
abbrev pub block_for : Scene → ℕ → StepOutput → ℕ → ℕ → Option Block
block_for scene j outputs most c =
    if nat_lt j most
    then Some (record { number = j; items = slice_index_or outputs (link_at scene c).from_port [] })
    else None

-- what step j makes, in a state, of what the inboxes hold: its blocks are those of the connections from the application
pub record IsStep (scene : Scene) (app j : ℕ) (most out : List ℕ) (before : List Bool) (inboxes : List PortInbox) (s : Step) : Type 0 where
  pub outputs : StepOutput
  pub reads : (table : Table) → IsProper scene table → ((p : ℕ) → p < length inboxes → HoldsAt scene app p j (inbox_at inboxes p) table)
      → s.inputs.items ≡ inputs scene table app j
  pub shaped : AreInputs (app_at scene app).ports s.inputs.items
  pub gives : outputs ≡ turn (app_at scene app).rules before (moment_of scene app j s.inputs.items)
  pub rows_are : s.rows ≡ step_rows_in scene app j s.inputs.items
  pub blocks_are : s.blocks.items ≡ map (λ c. block_for scene j outputs (slice_index most c) c) out

-- ---- the parts of a machine

-- beside what contracts see of a machine: how many steps there are; the connections to it, their paces, and those from it; by
-- connection of the scene how many blocks the next step needs, how many are wanted at all, and the place at its port; the plan,
-- and the inboxes
pub record Parts : Type 0 where
  pub last : ℕ
  pub into : List ℕ
  pub paces : List Pace
  pub out : List ℕ
  pub needs : List ℕ
  pub most : List ℕ
  pub places : List ℕ
  pub plan : TurnPlan
  pub inboxes : List PortInbox

-- what a machine keeps true of itself and its parts
pub record IsMachine (m : Machine) (x : Parts) : Type 0 where
  pub faultless : IsFaultless m.scene
  pub here : m.app < length m.scene.apps
  pub all_steps : x.last ≡ steps m.scene m.app
  pub within : m.ran ≤ x.last
  pub puts : length m.put ≡ length m.scene.links
  pub takes : length m.taken ≡ length m.scene.links
  pub pendings : length m.pending ≡ length m.scene.links
  pub comes_in : x.into ≡ into_of m.scene m.app
  pub paced : x.paces ≡ map (pace_of m.scene) x.into
  pub goes_out : x.out ≡ out_of m.scene m.app
  pub need_count : length x.needs ≡ length m.scene.links
  pub most_count : length x.most ≡ length m.scene.links
  pub place_count : length x.places ≡ length m.scene.links
  pub truth_count : length m.state ≡ length (opening (app_at m.scene m.app).rules)
  pub planned : x.plan ≡ turn_plan (app_at m.scene m.app).ports (app_at m.scene m.app).rules
  pub each_need : EachTo m.scene m.app (λ c. slice_index x.needs c ≡ wanted m.scene c m.ran)
  pub each_most : EachFrom m.scene m.app (λ c. slice_index x.most c ≡ wanted_blocks m.scene c)
  pub inboxes_are : AreInboxes m.scene m.app m.ran m.taken x.places x.inboxes
  pub seen : m.waiting ≡ waiting_in m.scene m.app m.ran x.inboxes x.places
  pub owed : EachFrom m.scene m.app (λ c. IsPendingAt m.scene c m.ran (put_by m c) (pending_on m c))

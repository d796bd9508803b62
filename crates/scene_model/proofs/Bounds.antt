-- The numbers of a scene without a fault, connection by connection.
use Rattle.std.proofs.Common.{ℕ, ◌+◌, ◌*◌, ◌<◌, ◌≤◌, Bool, true, false, length, ℤ, pos, ◌+ℤ◌, ◌≤ℤ◌, arith}
use Rattle.std.specs.Prelude.{IfSome}
use Rattle.std.specs.Int.{IsInRange}
use Rattle.std.proofs.lemmas.Int.{ints}
use Rattle.music_base.specs.Clocks.{steps_until}
use Rattle.music_base.specs.Times.{greatest_time}
use Rattle.scene_model.specs.Clocks.{allowance, allowance_by, delay, latency, start, steps, tick}
use Rattle.scene_model.specs.Connections.{IsConnection}
use Rattle.scene_model.specs.Faults.{IsFaultless}
use Rattle.scene_model.specs.Limits.{longest_tick, most_buffered, most_steps}
use Rattle.scene_model.specs.Scenes.{input_of, link_at, output_of, receiver, sender}
use Rattle.scene_model.specs.declared.port.PortKind.{PortKind}
use Rattle.scene_model.specs.declared.port.PortKind.TheVariants.{Events, Values, Messages}
use Rattle.scene_model.specs.declared.scene.Scene.{Scene}
use Rattle.scene_model.proofs.Faultless.{app_is, connection_is, numbers_are, port_is}

-- ---- the numbers of a connection

-- an application of this start and this tick runs so many steps
pub record IsPaced (scene : Scene) (a : ℕ) : Type 0 where
  pub start_to : start scene a ≤ greatest_time
  pub tick_from : 1 ≤ tick scene a
  pub tick_to : tick scene a ≤ longest_tick
  pub steps_to : steps scene a ≤ most_steps

pub paced_at : (scene : Scene) (a : ℕ) → IsFaultless scene → a < length scene.apps → IsPaced scene a
unfolding start tick steps steps_until
paced_at scene a faultless lt =
    let app = app_is scene faultless a lt in
    record { start_to = app.start; tick_from = app.tick.0; tick_to = app.tick.1; steps_to = app.few_steps }

-- what connection c and its ends buffer
pub record HasOptions (scene : Scene) (c : ℕ) : Type 0 where
  pub buffered : IfSome (link_at scene c).buffered (IsInRange 1 most_buffered)
  pub output_buffered : IfSome (output_of scene c).buffered (IsInRange 1 most_buffered)
  pub input_buffered : IfSome (input_of scene c).buffered (IsInRange 1 most_buffered)

pub has_options_at : (scene : Scene) (c : ℕ) → IsFaultless scene → c < length scene.links → HasOptions scene c
has_options_at scene c faultless lt =
    let ends = connection_is scene faultless c lt in
    record {
      buffered = (numbers_are scene faultless c lt).buffered;
      output_buffered = (port_is scene faultless (sender scene c) (link_at scene c).from_port ends.from_app ends.from_port).buffered;
      input_buffered = (port_is scene faultless (receiver scene c) (link_at scene c).to_port ends.to_app ends.to_port).buffered;
    }

-- both applications and the options of connection c
pub record IsTimed (scene : Scene) (c : ℕ) : Type 0 where
  pub ends : IsConnection scene c
  pub sends : IsPaced scene (sender scene c)
  pub receives : IsPaced scene (receiver scene c)
  pub options : HasOptions scene c

pub timed_at : (scene : Scene) (c : ℕ) → IsFaultless scene → c < length scene.links → IsTimed scene c
timed_at scene c faultless lt =
    let ends = connection_is scene faultless c lt in
    record {
      ends = ends;
      sends = paced_at scene (sender scene c) faultless ends.from_app;
      receives = paced_at scene (receiver scene c) faultless ends.to_app;
      options = has_options_at scene c faultless lt;
    }

-- ---- allowances

pub record IsAllowance (x : ℤ) : Type 0 where
  pub low : pos 0 ≤ℤ (x +ℤ pos (greatest_time + longest_tick))
  pub high : x ≤ℤ pos (2 * greatest_time + longest_tick)

-- what it is where both applications start together
pub record IsTogether (x : ℤ) : Type 0 where
  pub low : pos 0 ≤ℤ (x +ℤ pos longest_tick)
  pub high : x ≤ℤ pos (greatest_time + longest_tick)

by_kind : (kind : PortKind) (interpolate : Bool) (l d s r : ℕ) → l ≤ greatest_time → d ≤ greatest_time → 1 ≤ s → s ≤ longest_tick → 1 ≤ r → r ≤ longest_tick →
    IsTogether (allowance_by kind interpolate l d s r)
by_kind Events interpolate l d s r hl hd s1 s2 r1 r2 = record { low = omega (arith, ints); high = omega (arith, ints) }
by_kind Messages interpolate l d s r hl hd s1 s2 r1 r2 = record { low = omega (arith, ints); high = omega (arith, ints) }
by_kind Values true l d s r hl hd s1 s2 r1 r2 = record { low = omega (arith, ints); high = omega (arith, ints) }
by_kind Values false l d s r hl hd s1 s2 r1 r2 = record { low = omega (arith, ints); high = omega (arith, ints) }

pub together_at : (scene : Scene) (c : ℕ) → IsTimed scene c →
    IsTogether (allowance_by (input_of scene c).kind (input_of scene c).interpolate (latency scene c) (delay scene c) (tick scene (sender scene c)) (tick scene (receiver scene c)))
together_at scene c timed =
    by_kind (input_of scene c).kind (input_of scene c).interpolate (latency scene c) (delay scene c) (tick scene (sender scene c)) (tick scene (receiver scene c))
    timed.ends.latency timed.ends.delay timed.sends.tick_from timed.sends.tick_to timed.receives.tick_from timed.receives.tick_to

-- an allowance is not far below the greatest time before zero, and not far above twice the greatest time
pub allowance_at : (scene : Scene) (c : ℕ) → IsTimed scene c → IsAllowance (allowance scene c)
unfolding allowance
allowance_at scene c timed =
    let together = together_at scene c timed in
    let sent = timed.sends.start_to in
    let received = timed.receives.start_to in
    record { low = omega (arith, ints, together.low, received); high = omega (arith, ints, together.high, sent) }

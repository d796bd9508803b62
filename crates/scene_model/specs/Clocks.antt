-- Steps and clocks, due steps, and the blocks that a step wants. All times are in ns.
use Rattle.std.specs.Prelude.{ℕ, zero, suc, ◌+◌, ◌-◌, ◌*◌, ◌/◌, Bool, true, false, int_lt, ℤ, pos, ◌+ℤ◌, ◌-ℤ◌, Option}
use Rattle.std.specs.Option.{unwrap_or}
use Rattle.music_base.specs.Clocks.{steps_until, due_step_from}
use Rattle.music_base.specs.Numbers.{count_below}
use Rattle.scene_model.specs.Scenes.{app_at, link_at, sender, receiver, input_of}
use Rattle.scene_model.specs.declared.scene.AppDecl.{AppDecl}
use Rattle.scene_model.specs.declared.scene.Scene.{Scene}
use Rattle.scene_model.specs.declared.port.PortKind.{PortKind}
use Rattle.scene_model.specs.declared.port.PortKind.TheVariants.{Events, Values, Messages}

-- ---- clocks

unfoldable pub tick : Scene → ℕ → ℕ
tick scene a = (app_at scene a).tick

-- the clock of an application's first step
unfoldable pub start : Scene → ℕ → ℕ
start scene a = (app_at scene a).start

-- how long it is from an application's start to its stop, and 0 where it does not start before its stop
abbrev pub span : AppDecl → ℕ
span app = app.stop - app.start

-- how many steps an application runs: each whose clock is below its stop
unfoldable pub steps : Scene → ℕ → ℕ
steps scene a = steps_until (span (app_at scene a)) (tick scene a)

-- the time that s steps take
abbrev pub run_time : Scene → ℕ → ℕ → ℕ
run_time scene a s = s * tick scene a

-- the clock of an application after s steps, at which its step s runs
abbrev pub clock : Scene → ℕ → ℕ → ℕ
clock scene a s = start scene a + run_time scene a s

-- ---- delivery

-- the latency of a connection, for events and messages: the one that it states, or else that of its input
unfoldable pub latency : Scene → ℕ → ℕ
latency scene c = unwrap_or (link_at scene c).latency (input_of scene c).latency

-- the delay of a connection, for continuous values: the latency that it states, or else the delay of its input
unfoldable pub delay : Scene → ℕ → ℕ
delay scene c = unwrap_or (link_at scene c).latency (input_of scene c).delay

-- the step in which an event or a message of this time is due: the last one whose clock is not later than the time and
-- the latency together. What comes before the receiver's start with its latency is due in no step
unfoldable pub due : Scene → ℕ → ℕ → Option ℕ
due scene c time = due_step_from time (latency scene c) (start scene (receiver scene c)) (tick scene (receiver scene c))

-- ---- wanted blocks

-- how much later than its sender's clock a block may come. Events and messages may come as late as their latency. A
-- value that is held is wanted once its own clock has come, and one that is interpolated a tick of the sender before
abbrev pub allowance_by : PortKind → Bool → ℕ → ℕ → ℕ → ℕ → ℤ
allowance_by Events interpolate latency delay send_tick receive_tick = pos latency
allowance_by Messages interpolate latency delay send_tick receive_tick = pos latency
allowance_by Values true latency delay send_tick receive_tick = pos (delay + receive_tick) -ℤ pos send_tick
allowance_by Values false latency delay send_tick receive_tick = pos (delay + receive_tick) -ℤ pos 1

-- how much later than its receiver the sender of a connection starts
abbrev pub later_start : Scene → ℕ → ℤ
later_start scene c = pos (start scene (sender scene c)) -ℤ pos (start scene (receiver scene c))

-- the allowance of a connection, where the clocks of both applications count from their own starts. It may be negative
unfoldable pub allowance : Scene → ℕ → ℤ
allowance scene c =
    let input = input_of scene c in
    later_start scene c +ℤ allowance_by input.kind input.interpolate (latency scene c) (delay scene c) (tick scene (sender scene c)) (tick scene (receiver scene c))

-- step j of the receiver wants block k: the steps before it and the allowance together take less time than the steps up to
-- the end of step j
abbrev pub wants : Scene → ℕ → ℕ → ℕ → Bool
wants scene c j k = int_lt (pos (run_time scene (sender scene c) k) +ℤ allowance scene c) (pos (run_time scene (receiver scene c) (suc j)))

-- how many blocks step j wants, of those that the sender makes. They are the first ones
unfoldable pub wanted : Scene → ℕ → ℕ → ℕ
wanted scene c j = count_below (steps scene (sender scene c)) (wants scene c j)

-- how many blocks the steps before step j want
abbrev pub wanted_before : Scene → ℕ → ℕ → ℕ
wanted_before scene c zero = 0
wanted_before scene c (suc j) = wanted scene c j

-- how many blocks some step of the receiver wants
abbrev pub wanted_blocks : Scene → ℕ → ℕ
wanted_blocks scene c = wanted_before scene c (steps scene (receiver scene c))

-- ---- times of values

-- the clock of step j of a connection's receiver
abbrev pub clock_at : Scene → ℕ → ℕ → ℕ
clock_at scene c j = clock scene (receiver scene c) j

-- the clock of the receiver at which the first sample of a connection is read: a delay behind the sender's start
abbrev pub first_at : Scene → ℕ → ℕ
first_at scene c = start scene (sender scene c) + delay scene c

-- the number of the last sample that is not later than what step j reads, where that is not before the first sample
abbrev pub last_sample : Scene → ℕ → ℕ → ℕ
last_sample scene c j = (clock_at scene c j - first_at scene c) / tick scene (sender scene c)

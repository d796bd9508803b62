-- How many steps an application makes, and in which of them something is due.
use Rattle.std.specs.Prelude.{ℕ, ◌+◌, ◌-◌, ◌/◌, nat_lt, if◌then◌else◌, Option, Some, None}
use Rattle.std.specs.Int.{div_ceil}

-- how many steps of this tick begin within a span of time, the first with the span: their quotient, rounded up
unfoldable pub steps_until : ℕ → ℕ → ℕ
steps_until span tick = div_ceil span tick

-- the step, from 0, in which something of this time is due at an input of this latency whose application starts at 0
unfoldable pub due_step : ℕ → ℕ → ℕ → ℕ
due_step time latency tick = (time + latency) / tick

-- the same at an input whose application begins its steps at a start. What comes before that start with its latency is due
-- in no step
unfoldable pub due_step_from : ℕ → ℕ → ℕ → ℕ → Option ℕ
due_step_from time latency start tick = if nat_lt (time + latency) start then None else Some ((time + latency - start) / tick)

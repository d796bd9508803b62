-- The limits of a command's numbers.
use Rattle.std.specs.Prelude.{ℕ, ◌≤◌, ⊤}
use Rattle.command_words.specs.declared.command.Command.{Command}
use Rattle.command_words.specs.declared.command.Command.TheVariants.{Check, Plan, Order, Run, Load}
use Rattle.command_words.specs.declared.limits.TheConstants.{GREATEST_NUMBER, LEAST_WORKERS, MOST_WORKERS}

-- so many workers can be asked for
abbrev pub AreWorkers : ℕ → Type 0
AreWorkers workers = (LEAST_WORKERS ≤ workers) × (workers ≤ MOST_WORKERS)

-- the command's numbers are within their limits
abbrev pub IsWithinLimits : Command → Type 0
IsWithinLimits Check = ⊤
IsWithinLimits Plan = ⊤
IsWithinLimits Order = ⊤
IsWithinLimits (Run workers) = AreWorkers workers
IsWithinLimits (Load number workers) = (number ≤ GREATEST_NUMBER) × AreWorkers workers

-- Times that are a period apart.
use Rattle.std.specs.Prelude.{ℕ, ◌+◌, ◌*◌, ◌<◌, ◌≤◌, ◌≡◌}

-- a time that lies some periods after the first, and from one time up to another
pub record IsTimeBetween (every first from to time : ℕ) : Type 0 where
  pub periods : ℕ
  pub is : time ≡ first + periods * every
  pub least : from ≤ time
  pub below : time < to

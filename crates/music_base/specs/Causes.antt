-- When a call may answer a fault of the outside.
use Rattle.std.specs.Prelude.{◌≡◌, ℕ, ◌+◌, ◌-◌, ◌^◌, ◌<◌, ◌≤◌, ◌⊎◌, min, Result, OnOk, OnErr}

-- where a count of faults or of calls ends, and stays
abbrev pub last_count : ℕ
last_count = 2 ^ 64 - 1

-- a count of faults or of calls, one later
abbrev pub counted : ℕ → ℕ
counted n = min (n + 1) last_count

-- the count of faults rose in a call: it is greater at the exit, or stands at its last value there
abbrev pub Rose : ℕ → ℕ → Type 0
Rose before after = (before < after) ⊎ (after ≡ last_count)

-- a fault comes exactly where the count of faults rose in this call, up to its last value, and the count never falls
pub record HasCause {T E : Type 0} (before after : ℕ) (result : Result T E) : Type 0 where
  pub never_falls : before ≤ after
  pub stays : OnOk result (after ≡ before)
  pub rose : OnErr result (Rose before after)

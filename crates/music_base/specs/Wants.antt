-- Which blocks of a sender a step of the receiver wants.
use Rattle.std.specs.Prelude.{ℕ, ◌+◌, ◌*◌, Bool, int_lt, ℤ, pos, ◌+ℤ◌}
use Rattle.music_base.specs.Numbers.{count_below}

-- Block k begins, the allowance added, before the step ends.
abbrev pub is_wanted : ℕ → ℤ → ℕ → ℕ → ℕ → Bool
is_wanted send_tick allowance receive_tick step k = int_lt (pos (k * send_tick) +ℤ allowance) (pos ((step + 1) * receive_tick))

-- how many of the blocks below sent the step wants
unfoldable pub wanted : ℕ → ℤ → ℕ → ℕ → ℕ → ℕ
wanted send_tick allowance receive_tick sent step = count_below sent (is_wanted send_tick allowance receive_tick step)

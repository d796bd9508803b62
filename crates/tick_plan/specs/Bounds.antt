-- How great the numbers of the search can become.
use Rattle.std.specs.Prelude.{ℕ, ◌+◌, ◌*◌, ◌^◌}
use Rattle.scene_model.specs.Cover.{greatest_shortfall}
use Rattle.scene_model.specs.Limits.{most_apps}

-- no wait raises its waiter by more above the application that it awaits
abbrev pub greatest_rise : ℕ
greatest_rise = most_apps * greatest_shortfall + 1

-- no application starts higher, which is above all that a walk can rise
abbrev pub greatest_start : ℕ
greatest_start = 10 ^ 24

-- no application comes to lie higher
abbrev pub greatest_height : ℕ
greatest_height = greatest_start + most_apps * greatest_rise

-- A time that a text spells is not above the greatest one.
use Rattle.std.proofs.Common.{◌≡◌, ℕ, ◌*◌, ◌/◌, ◌^◌, Bool, true, false, List, refl}
use Rattle.std.specs.Prelude.{Result, Ok, Err, IfOk, IfSome, nat_le, if◌then◌else◌}
use Rattle.std.specs.Result.{result_ok}
use Rattle.music_base.specs.Times.{greatest_time, time_value, scaled, in_range, digits_of, raised, lowered}
use Rattle.music_base.specs.declared.times.TimeFault.{TimeFault}
use Rattle.music_base.specs.declared.times.TimeFault.TheVariants.{NotWhole, Spelling, Range}

abbrev IsTime : ℕ → Type 0
IsTime time = nat_le time greatest_time ≡ true

IfOk-test : (P : ℕ → Type 0) (test : Bool) (r : Result ℕ TimeFault) (e : TimeFault) → IfOk r P → IfOk (if test then r else Err e) P
IfOk-test P true r e is = is
IfOk-test P false r e is = tt

in_range-is : (n : ℕ) → IfOk (in_range n) IsTime
in_range-is n = elim (nat_le n greatest_time) as (λ b. nat_le n greatest_time ≡ b → IfOk (if b then Ok n else Err Range) IsTime) [ true ↦ (λ is. is) | false ↦ (λ is. tt) ] refl

scaled-is : (digits up down : ℕ) → IfOk (scaled digits up down) IsTime
unfolding scaled
scaled-is digits up down = IfOk-test IsTime _ _ NotWhole (in_range-is ((digits * 10 ^ up) / 10 ^ down))

pub time_value-is : (text : List ℕ) → IfOk (time_value text) (λ time. nat_le time greatest_time ≡ true)
unfolding time_value
time_value-is text = IfOk-test IsTime _ _ Spelling (scaled-is (digits_of text) (raised text) (lowered text))

from_ok : (r : Result ℕ TimeFault) → IfOk r IsTime → IfSome (result_ok r) IsTime
from_ok (Ok time) is = is
from_ok (Err fault) is = tt

-- the same where its fault is left out
pub result_ok-time_value : (text : List ℕ) → IfSome (result_ok (time_value text)) (λ time. nat_le time greatest_time ≡ true)
result_ok-time_value text = from_ok (time_value text) (time_value-is text)

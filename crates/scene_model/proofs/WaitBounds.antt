-- The waits of a scene without a fault have numbers that lie within their bounds.
use Rattle.std.proofs.Common.{◌≡◌, ℕ, ◌+◌, ◌*◌, ◌^◌, ◌≤◌, length, get_or, None, Some, All, ℤ, pos, ◌+ℤ◌, ◌≤ℤ◌, subst, arith}
use Rattle.std.specs.Prelude.{◌<ℤ◌, Option}
use Rattle.std.specs.Int.{IsGcd}
use Rattle.std.proofs.lemmas.Int.{ints}
use Rattle.std.proofs.lemmas.List.Elements.{All-get_or}
use Rattle.std.proofs.lemmas.Nat.Gcd.{le_of_dvd}
use Rattle.std.proofs.Math.Nat.{mul-le-mul, pos_of_dvd_of_pos}
use Rattle.music_base.specs.Times.{greatest_time}
use Rattle.scene_model.specs.Clocks.{allowance, tick}
use Rattle.scene_model.specs.Cover.{IsWithin}
use Rattle.scene_model.specs.Faults.{IsFaultless}
use Rattle.scene_model.specs.Limits.{longest_tick}
use Rattle.scene_model.specs.Scenes.{receiver, sender}
use Rattle.scene_model.specs.Waits.{IsLawfulLimit, Limits, block_wait, common_divisor, greatest_limit, room_wait, rounded, waits}
use Rattle.scene_model.specs.declared.scene.Scene.{Scene}
use Rattle.scene_model.proofs.Bounds.{IsTimed, allowance_at, timed_at}
use Rattle.music_base.proofs.Counting.{gcd-divides}
use Rattle.music_base.proofs.Rounding.{floor_to-le, floor_to-near}
use Rattle.scene_model.proofs.SceneWaits.{All-waits, All-waits_of}

-- what both ticks are multiples of is at most the receiver's tick
pub record IsCommonDivisor (scene : Scene) (c : ℕ) : Type 0 where
  pub some : 1 ≤ common_divisor scene c
  pub within : common_divisor scene c ≤ tick scene (receiver scene c)

pub common_divisor_at : (scene : Scene) (c : ℕ) → IsTimed scene c → IsCommonDivisor scene c
common_divisor_at scene c timed =
    let send = tick scene (sender scene c) in
    let receive = tick scene (receiver scene c) in
    let divides : IsGcd send receive (common_divisor scene c) = gcd-divides send receive in
    record { some = pos_of_dvd_of_pos divides.0 timed.sends.tick_from; within = le_of_dvd timed.receives.tick_from divides.1 }

-- a rounded allowance is not far below the greatest time before zero, and not far above twice the greatest time
pub record IsRounded (x : ℤ) : Type 0 where
  pub low : pos 0 ≤ℤ (x +ℤ pos (greatest_time + 2 * longest_tick))
  pub high : x ≤ℤ pos (2 * greatest_time + longest_tick)

pub rounded_at : (scene : Scene) (c : ℕ) → IsTimed scene c → IsRounded (rounded scene c)
rounded_at scene c timed =
    let near = allowance_at scene c timed in
    let g = common_divisor_at scene c timed in
    let le : rounded scene c ≤ℤ allowance scene c = floor_to-le (common_divisor scene c) (allowance scene c) g.some in
    let gt : allowance scene c <ℤ (rounded scene c +ℤ pos (common_divisor scene c)) = floor_to-near (common_divisor scene c) (allowance scene c) g.some in
    let short : common_divisor scene c ≤ longest_tick = omega (arith, g.within, timed.receives.tick_to) in
    record { low = omega (arith, ints, near.low, gt, short); high = omega (arith, ints, near.high, le) }

-- ---- the two waits of a connection

pub block_within : (scene : Scene) (c : ℕ) → IsTimed scene c → IsWithin (length scene.apps) (block_wait scene c)
unfolding block_wait
block_within scene c timed =
    let r = rounded_at scene c timed in
    let g = common_divisor_at scene c timed in
    let t = timed.receives in
    record {
      waiter = timed.ends.to_app;
      awaited = timed.ends.from_app;
      allowance_low = omega (arith, ints, r.low);
      allowance_high = omega (arith, ints, r.high);
      burden_low = omega (arith, ints, g.within);
      burden_high = omega (arith, ints, t.tick_to);
      shortfall = omega (arith, ints, r.low, g.some, t.tick_to);
    }

-- the time that a connection has room for
pub room_high : (m send receive : ℕ) → m ≤ greatest_limit → send ≤ longest_tick → receive ≤ longest_tick → (m + 1) * send + receive ≤ 2 * 10 ^ 29
room_high m send receive few short brief =
    let more : m + 1 ≤ greatest_limit + 1 = omega arith in
    let most : (m + 1) * send ≤ (greatest_limit + 1) * longest_tick = mul-le-mul more short in
    omega (arith, most, brief)

pub room_within : (scene : Scene) (c m : ℕ) → IsTimed scene c → m ≤ greatest_limit → IsWithin (length scene.apps) (room_wait scene c m)
unfolding room_wait
room_within scene c m timed few =
    let r = rounded_at scene c timed in
    let send = tick scene (sender scene c) in
    let receive = tick scene (receiver scene c) in
    let high : (m + 1) * send + receive ≤ 2 * 10 ^ 29 = room_high m send receive few timed.sends.tick_to timed.receives.tick_to in
    record {
      waiter = timed.ends.from_app;
      awaited = timed.ends.to_app;
      allowance_low = omega (arith, ints, r.high);
      allowance_high = omega (arith, ints, r.low, high);
      burden_low = omega (arith, ints);
      burden_high = omega (arith, ints);
      shortfall = omega (arith, ints, r.high);
    }

-- ---- all waits

lawful_at_most : (limit : Option ℕ) (m : ℕ) → limit ≡ Some m → IsLawfulLimit limit → m ≤ greatest_limit
lawful_at_most limit m is lawful = let some : IsLawfulLimit (Some m) = subst IsLawfulLimit is lawful in some.1

-- under lawful limits every wait of the scene lies within the bounds
pub waits_within : (scene : Scene) (limits : Limits) → IsFaultless scene → length limits ≡ length scene.links → All IsLawfulLimit limits →
    All (IsWithin (length scene.apps)) (waits scene limits)
waits_within scene limits faultless counted lawful =
    All-waits (IsWithin (length scene.apps)) scene limits (λ c lt.
    let timed = timed_at scene c faultless lt in
    let here : IsLawfulLimit (get_or limits c None) = All-get_or IsLawfulLimit limits c None (omega arith) lawful in
    All-waits_of (IsWithin (length scene.apps)) scene c (get_or limits c None) (block_within scene c timed) (λ m is. room_within scene c m timed (lawful_at_most _ m is here)))

-- A product that is not above a limit far below the most that a word holds is found so, also where it was taken of a
-- number that was cut down to that most.
use Rattle.std.proofs.Common.{◌≡◌, ℕ, ◌-◌, ◌*◌, ◌^◌, ◌≤◌, refl, ap, inl, inr, arith}
use Rattle.std.specs.Prelude.{min, nat_le}
use Rattle.std.proofs.Math.Nat.{mul-le-mul_right}
use Rattle.std.proofs.lemmas.Bool.{cases_lt, le-leb, lt-leb}
use Rattle.scene_model.specs.Limits.{most_values}

pub few_values : (steps values kept product : ℕ) → kept ≡ min values (2 ^ 64 - 1) → product ≡ min (steps * kept) (2 ^ 64 - 1) → nat_le product most_values ≡ nat_le (steps * values) most_values
few_values steps values kept product is_kept is_product =
    elim (cases_lt (2 ^ 64 - 1) values) [
      | inl beyond ↦ elim (cases_lt 0 steps) [
        | inl some ↦
            let more_kept : 1 * kept ≤ steps * kept = mul-le-mul_right {m = 1} {n = steps} kept some in
            let more : 1 * values ≤ steps * values = mul-le-mul_right {m = 1} {n = steps} values some in
            rw (lt-leb product most_values (omega arith), lt-leb (steps * values) most_values (omega arith)) refl
        | inr none ↦
            let no_kept : steps * kept ≤ 0 * kept = mul-le-mul_right {m = steps} {n = 0} kept none in
            let no_values : steps * values ≤ 0 * values = mul-le-mul_right {m = steps} {n = 0} values none in
            rw (le-leb product most_values (omega arith), le-leb (steps * values) most_values (omega arith)) refl
      ]
      | inr within ↦
          let same : kept ≡ values = omega arith in
          let products : steps * kept ≡ steps * values = ap (λ k. steps * k) same in
          elim (cases_lt most_values (steps * values)) [
            | inl many ↦ rw (lt-leb product most_values (omega arith), lt-leb (steps * values) most_values many) refl
            | inr few ↦ rw (le-leb product most_values (omega arith), le-leb (steps * values) most_values few) refl
          ]
    ]

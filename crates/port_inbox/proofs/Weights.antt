-- What is read, as points between samples.
use Rattle.std.proofs.Common.{ℕ, ◌+◌, ◌-◌, ◌*◌, ◌/◌, ◌%◌, ◌≤◌, ◌≡◌, Bool, true, false, List, [], ◌∷◌, map, ℤ, pos, refl, ap, inl, inr, arith}
use Rattle.std.specs.Prelude.{if◌then◌else◌, nat_lt, None, Some}
use Rattle.std.proofs.lemmas.Bool.{cases_eq, ne_eqb}
use Rattle.std.proofs.lemmas.Int.{ints}
use Rattle.music_base.specs.declared.item.Item.{Item}
use Rattle.music_base.specs.declared.item.Item.TheVariants.{Value}
use Rattle.music_base.proofs.Lists.{map-agree}
use Rattle.scene_model.specs.Tables.{reading}
use Rattle.port_inbox.specs.Samples.{Samples, point, read}
use lib.IntN.{*ℤ-zero}

interpolated : (samples : ℕ → ℤ) (tick late : ℕ) → 1 ≤ tick → point samples tick (late / tick) (late % tick) ≡ reading true samples tick late
interpolated samples tick late some = elim (cases_eq (late % tick) 0) [
  | inl none ↦ rw (none, *ℤ-zero) (omega (arith, ints))
  | inr weight ↦ rw (ne_eqb (late % tick) 0 weight) refl
]

pub points_read : (samples : ℕ → ℕ → ℤ) (between : Bool) (tick late weight : ℕ) (globals : List ℕ) → 1 ≤ tick → weight ≡ (if between then late % tick else 0)
    → map (λ g. Value g (point (samples g) tick (late / tick) weight)) globals ≡ map (λ g. Value g (reading between (samples g) tick late)) globals
points_read samples true tick late weight globals some is = rw is (map-agree _ _ (λ g. ap (λ v. Value g v) (interpolated (samples g) tick late some)) globals)
points_read samples false tick late weight globals some is = rw is refl

-- before the first sample every index is read as 0
pub none_read : (samples : Samples) (step : ℕ) (globals : List ℕ) → nat_lt (samples.receive_start + step * samples.receive_tick) (samples.send_start + samples.delay) ≡ true
    → map (λ g. Value g (pos 0)) globals ≡ map (λ g. Value g (read samples step g)) globals
unfolding read
none_read samples step [] early = refl
none_read samples step (g ∷ globals) early = rw early (ap (λ (items : List Item). Value g (pos 0) ∷ items) (none_read samples step globals early))

pub is_early : (now first : ℕ) → None ≡ (if nat_lt now first then None else Some (now - first)) → nat_lt now first ≡ true
is_early now first none = go (nat_lt now first) refl none
  where
    go : (b : Bool) → nat_lt now first ≡ b → None ≡ (if b then None else Some (now - first)) → nat_lt now first ≡ true
    go true e none = e
    go false e none = absurd cc

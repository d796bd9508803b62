-- A test that numbers pass, at one of them.
use Rattle.std.proofs.Common.{◌≡◌, ◌∙◌, ◌<◌, ℕ, ◌&&◌, Bool, true, false, get_or, ap, sym, refl, arith, true≢false, zero-add}
use Rattle.std.specs.List.{list_all}
use Rattle.std.proofs.lemmas.List.Folds.{list_all_at}
use Rattle.std.proofs.lemmas.List.FromFn.{get_or-range_with_len, length-range_with_len}
use Rattle.music_base.specs.Numbers.{below}

pub both : (a b : Bool) → (a && b) ≡ true → (a ≡ true) × (b ≡ true)
both true b e = (refl, e)
both false b e = absurd (true≢false (sym e))

-- of the numbers below n
pub at_one : (test : ℕ → Bool) (n : ℕ) → list_all test (below n) ≡ true → (i : ℕ) → i < n → test i ≡ true
at_one test n e i lt = go (test i) refl
  where
    go : (b : Bool) → test i ≡ b → b ≡ true
    go true is = refl
    go false is =
        let len = length-range_with_len 0 n in
        let here : get_or (below n) i 0 ≡ i = get_or-range_with_len 0 n i 0 lt ∙ zero-add i in
        sym (list_all_at test (below n) i 0 (omega (arith, len)) (ap test here ∙ is)) ∙ e

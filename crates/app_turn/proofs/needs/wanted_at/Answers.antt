use Rattle.std.proofs.Common.{◌≡◌, ◌∙◌, ℕ, ◌+◌, ◌*◌, ◌<◌, nat_lt, sym, rules, arith, ap, pos, FitsSigned, w64}
use Rattle.std.specs.Prelude.{unsigned_abs}
use Rattle.std.specs.Int.{int_max}
use Rattle.std.proofs.lemmas.Int.{ints, to_z-of_z}
use Rattle.music_base.specs.Wants.{is_wanted, wanted}
use Rattle.music_base.proofs.Counting.{count_below-first}
use Rattle.app_turn.proofs.Paces.{begins_before}
use Rattle.app_turn.proofs.needs.wanted_at.Goals as goal

pub returns : goal.returns
unfolding wanted
returns c =
    let pace = c.args.pace.now in
    let end : ℕ = (c.args.step + 1) * pace.receive_tick in
    let fits : FitsSigned w64 c.end_without-end.result = search rules in
    let some : FitsSigned w64 c.max.result = search rules in
    let is_max = c.max.ensures.value ∙ ap (λ z. int_max z (pos 0)) (to_z-of_z w64 c.end_without-end.result fits ∙ c.end_without-end.ensures) in
    let natural : pos (unsigned_abs c.max.result) ≡ c.max.result = omega (arith, ints, c.max.ensures.other_bound) in
    let first : (k : ℕ) → k < pace.sent → is_wanted pace.send_tick pace.allowance pace.receive_tick c.args.step k ≡ nat_lt k c.multiples_before.result = λ k lt.
    begins_before (k * pace.send_tick) end (unsigned_abs c.max.result) pace.allowance (natural ∙ is_max) ∙ rw (c.tick.view_is, to_z-of_z w64 c.max.result some) at (c.multiples_before.ensures.first k lt) in
    sym (count_below-first pace.sent c.multiples_before.result (is_wanted pace.send_tick pace.allowance pace.receive_tick c.args.step) c.multiples_before.ensures.within first)

-- One of the heights is set, and the others are as they were.
use Rattle.std.proofs.Common.{◌≡◌, ℕ, zero, suc, List, length, replicate, slice_index, ap, ◌∙◌, refl, arith}
use Rattle.std.proofs.lemmas.List.{get_or-set_other, get_or-set_same, length-replicate, length-set}
use Rattle.tick_plan.proofs.least.starts_above.Goals as goal

none_at : (n v : ℕ) → slice_index (replicate n 0) v ≡ 0
none_at zero v = refl
none_at (suc n) zero = refl
none_at (suc n) (suc v) = none_at n v

pub returns-clause-counted : goal.returns-clause-counted
returns-clause-counted c = length-set c.in_ok-starts.starts.items _ _ ∙ ap length c.in_ok-starts.ensures ∙ length-replicate c.args.applications 0

pub returns-clause-high : goal.returns-clause-high
returns-clause-high c =
    let counted : length c.in_ok-starts.starts.items ≡ c.args.applications = ap length c.in_ok-starts.ensures ∙ length-replicate c.args.applications 0 in
    rw c.app.view_is (get_or-set_same c.in_ok-starts.starts.items c.args.app _ 0 (omega (arith, counted, c.requires)))

pub returns-clause-others : goal.returns-clause-others
returns-clause-others c = λ v other.
    rw c.app.view_is (get_or-set_other c.in_ok-starts.starts.items c.args.app v _ 0 other ∙ ap (λ (heights : List ℕ). slice_index heights v) c.in_ok-starts.ensures ∙ none_at c.args.applications v)

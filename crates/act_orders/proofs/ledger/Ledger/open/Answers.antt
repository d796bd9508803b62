use Rattle.std.proofs.Common.{◌≡◌, ◌∙◌, ap, replicate, ℕ}
use Rattle.act_orders.proofs.Entering.{opened}
use Rattle.act_orders.proofs.ledger.Ledger.open.Goals as goal

pub returns : goal.returns
returns c = opened c.args.scene.now c.requires.faultless c.args.limits.now c.requires.limits _ (c.in_ok-from_slice.ensures.items)
    (c.in_ok-zeros.ensures ∙ ap (λ (n : ℕ). replicate n 0) c.len-apps.ensures) (c.in_ok-zeros-2.ensures ∙ ap (λ (n : ℕ). replicate n 0) c.len-links.ensures) (c.in_ok-zeros-3.ensures ∙ ap (λ (n : ℕ). replicate n 0) c.len-links.ensures)
    c.in_ok-step_counts.ensures c.in_ok-most_wanted.ensures c.in_ok-into_each.ensures c.in_ok-out_of_each.ensures c.in_ok-first_needs.ensures

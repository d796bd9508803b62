use Rattle.std.proofs.Common.{◌≡◌, ℕ, ◌+◌, ◌-◌, ◌≤◌, nat_le, length, length-take, sym, ap, ◌∙◌, inl, inr, arith}
use Rattle.std.proofs.lemmas.Bool.{cases_Bool, le-leb, leb-true, leb-false, lt-leb}
use Rattle.run_logs.proofs.page.Page.has_room.Goals as goal

-- what is left of a page is enough just where all fits
enough : (most used count : ℕ) → used ≤ most → nat_le count (most - used) ≡ nat_le (used + count) most
enough most used count within = elim (cases_Bool (nat_le (used + count) most)) [
  | inl t ↦ le-leb count (most - used) (omega (arith, leb-true (used + count) most t)) ∙ sym t
  | inr f ↦ lt-leb count (most - used) (omega (arith, leb-false (used + count) most f)) ∙ sym f
]

pub returns : goal.returns
returns c =
    let used : length c.args.self.now ≡ c.self.inside.len = sym (ap length c.self.view_is) ∙ simp length-take (omega (arith, c.self.invariant.0, c.self.invariant.1)) in
    rw used (enough 65536 c.self.inside.len c.args.count c.self.invariant.0)

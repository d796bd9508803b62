use Rattle.std.proofs.Common.{◌≡◌, ◌-◌, ◌∷◌}
use Rattle.std.specs.Prelude.{replicate}
use Rattle.port_table.specs.declared.map_text.RankText.TheVariants.{Span}
use Rattle.port_table.proofs.map_text.first_and_others.Given as goal

abbrev pub invariant-loop-rank : goal.invariant-loop-rank
invariant-loop-rank l = l.ranks.items ≡ Span l.fn.first ∷ replicate (l.rank - 1) (Span l.others)

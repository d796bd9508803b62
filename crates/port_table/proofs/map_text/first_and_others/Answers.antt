use Rattle.std.proofs.Common.{◌≡◌, ◌+◌, ◌-◌, [], ◌∷◌, ap, ◌∙◌, arith}
use Rattle.std.specs.Prelude.{replicate}
use Rattle.std.proofs.lemmas.List.{replicate-append-replicate}
use Rattle.std.proofs.lemmas.Slice.{pushed}
use Rattle.port_table.specs.declared.map_text.RankText.TheVariants.{Span}
use Rattle.port_table.proofs.map_text.first_and_others.Goals as goal

pub loop-rank-preserved : goal.loop-rank-preserved
loop-rank-preserved c =
    let more = pushed (Span c.args.others ∷ []) c.loop-rank.invariant c.in_ok-push-2.was c.push-in-loop-rank.ensures.items in
    let count : c.loop-rank.rank - 1 + 1 ≡ c.loop-rank.rank + 1 - 1 = omega (arith, c.loop-rank.auto.rank) in
    more ∙ ap (λ (ranks : _). Span c.args.first ∷ ranks) (replicate-append-replicate (c.loop-rank.rank - 1) 1 (Span c.args.others) ∙ ap (λ n. replicate n (Span c.args.others)) count)

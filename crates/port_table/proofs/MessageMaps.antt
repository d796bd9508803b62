-- Spans that are stated of the ranks of a message port are its map.
use Rattle.std.proofs.Common.{◌≡◌, ℕ, zero, suc, List, ◌∷◌, refl, ap}
use Rattle.std.specs.Prelude.{map, replicate}
use Rattle.index_maps.specs.Indices.{Extent}
use Rattle.index_maps.specs.declared.map.IndexMap.TheVariants.{Linear}
use Rattle.port_table.specs.Stated.{rank_stated}
use Rattle.port_table.specs.declared.map_text.RankText.{RankText}
use Rattle.port_table.specs.declared.map_text.RankText.TheVariants.{Span}

alike : (n : ℕ) (others : Extent) → map rank_stated (replicate n (Span others)) ≡ replicate n (Linear others)
alike zero others = refl
alike (suc n) others = ap (λ ranks. Linear others ∷ ranks) (alike n others)

pub stated : (n : ℕ) (first others : Extent) (ranks : List RankText) → ranks ≡ Span first ∷ replicate n (Span others)
    → map rank_stated ranks ≡ Linear first ∷ replicate n (Linear others)
stated n first others ranks is = rw is (ap (λ ranks. Linear first ∷ ranks) (alike n others))

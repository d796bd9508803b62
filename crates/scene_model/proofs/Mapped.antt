-- An index that a lawful map has is a global index.
use Rattle.std.proofs.Common.{◌≡◌, inl, inr, ℕ, ◌<◌, true, nat_lt, List, [], ◌∷◌, arith}
use Rattle.std.specs.Prelude.{◌==◌}
use Rattle.std.specs.List.{list_all, list_any}
use Rattle.std.proofs.lemmas.Bool.{and_parts, cases_Bool, eqb-true, ltb-true}
use Rattle.music_base.specs.Numbers.{below}
use Rattle.index_maps.specs.Indices.{are_indices}
use Rattle.index_maps.specs.Maps.{globals_of, maps_index, rank_count}
use Rattle.index_maps.specs.declared.map.PortMap.{PortMap}
use Rattle.index_maps.specs.declared.span.TheConstants.{INDEX_LIMIT}
use Rattle.scene_model.specs.Ports.{has_indices}

among : (xs : List ℕ) (g : ℕ) → list_all (λ i. nat_lt i INDEX_LIMIT) xs ≡ true → list_any (λ i. i == g) xs ≡ true → g < INDEX_LIMIT
among [] g all h = absurd cc
among (x ∷ xs) g all h = elim (cases_Bool (x == g)) [
  | inl here ↦ let e : x ≡ g = eqb-true x g here in let l : x < INDEX_LIMIT = ltb-true x INDEX_LIMIT (and_parts _ _ all).0 in omega arith
  | inr other ↦ let rest : list_any (λ i. i == g) xs ≡ true = rw other at h in among xs g (and_parts _ _ all).1 rest
]

over_ranks : (map : PortMap) (g : ℕ) (ranks : List ℕ) → list_all (λ r. are_indices (globals_of map r)) ranks ≡ true → list_any (λ r. list_any (λ i. i == g) (globals_of map r)) ranks ≡ true → g < INDEX_LIMIT
over_ranks map g [] all h = absurd cc
over_ranks map g (r ∷ ranks) all h = elim (cases_Bool (list_any (λ i. i == g) (globals_of map r))) [
  | inl here ↦ among (globals_of map r) g (and_parts _ _ (and_parts _ _ all).0).0 here
  | inr other ↦
      let rest : list_any (λ s. list_any (λ i. i == g) (globals_of map s)) ranks ≡ true = rw other at h in
      over_ranks map g ranks (and_parts _ _ all).1 rest
]

pub mapped_small : (map : PortMap) (g : ℕ) → has_indices map ≡ true → maps_index map g ≡ true → g < INDEX_LIMIT
mapped_small map g all h = over_ranks map g (below (rank_count map)) all h

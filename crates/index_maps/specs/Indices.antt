-- Global indices, consecutive and in a list.
use Rattle.std.specs.Prelude.{ℕ, Bool, ◌&&◌, ◌==◌, nat_lt, List}
use Rattle.std.specs.List.{list_all}
use Rattle.music_base.specs.Numbers.{all_differ}
use Rattle.index_maps.specs.declared.span.TheConstants.{INDEX_LIMIT}

-- where consecutive indices begin, and how many there are
pub record Extent : Type 0 where
  pub base : ℕ
  pub size : ℕ

-- each of them is a global index, and none comes twice
abbrev pub are_indices : List ℕ → Bool
are_indices indices = list_all (λ i. nat_lt i INDEX_LIMIT) indices && all_differ ◌==◌ indices

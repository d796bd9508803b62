-- Blocks of targets: the routes of one interval, whose targets stand one after another.
use Rattle.std.specs.Prelude.{ℕ, zero, suc, ◌+◌, ◌-◌, ◌*◌, ◌<◌, ◌≤◌, ◌≡◌, true, List, [], ◌∷◌, length, map, take, drop}
use Rattle.std.specs.List.{AllByRecursion, flat_map}
use Rattle.index_maps.specs.Cuts.{are_cuts, cuts_end}
use Rattle.index_maps.specs.declared.span.TheConstants.{INDEX_LIMIT}
use Rattle.index_maps.specs.declared.interval.Interval.{Interval}
use Rattle.event_routes.specs.Routing.{Route, run_count}
use Rattle.event_routes.specs.declared.target.Target.{Target}
use Rattle.event_routes.specs.declared.block.TargetBlock.{TargetBlock}

-- the routes of so many consecutive indices from a first one on, each of which has so many of the targets, in order
abbrev pub routes_from : ℕ → ℕ → ℕ → List Target → List Route
routes_from zero first ranks targets = []
routes_from (suc n) first ranks targets = record { global = first; targets = take ranks targets } ∷ routes_from n (first + 1) ranks (drop ranks targets)

-- how many indices a block is of
abbrev pub width : TargetBlock → ℕ
width block = block.interval.after - block.interval.first

abbrev pub block_routes : TargetBlock → List Route
block_routes block = routes_from (width block) block.interval.first block.ranks block.targets.items

-- the targets of the index at a place of a block
abbrev pub targets_at : TargetBlock → ℕ → List Target
targets_at block i = take block.ranks (drop (i * block.ranks) block.targets.items)

-- a block is of some index and some rank, and has a target for each rank at each index
pub record IsBlock (block : TargetBlock) : Type 0 where
  pub some : block.interval.first < block.interval.after
  pub ranked : 0 < block.ranks
  pub sized : length block.targets.items ≡ width block * block.ranks

abbrev pub AreBlocks : List TargetBlock → Type 0
AreBlocks blocks = AllByRecursion IsBlock blocks

-- the routes of all blocks
abbrev pub routes_in : List TargetBlock → List Route
routes_in blocks = flat_map block_routes blocks

abbrev pub cuts_of : List TargetBlock → List Interval
cuts_of blocks = map (λ block. block.interval) blocks

-- blocks of ascending intervals that end at or below an index, each of which is a run
pub record AreRuns (blocks : List TargetBlock) (end : ℕ) : Type 0 where
  pub each : AreBlocks blocks
  pub cuts : are_cuts (cuts_of blocks) ≡ true
  pub ends : cuts_end 0 (cuts_of blocks) ≤ end
  pub limit : cuts_end 0 (cuts_of blocks) ≤ INDEX_LIMIT
  pub runs : length blocks ≡ run_count (routes_in blocks)

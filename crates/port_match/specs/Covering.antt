-- The indices of two ports, as intervals that ascend.
use Rattle.std.specs.Prelude.{ℕ, Bool, false, not, ◌&&◌, nat_lt, nat_le, if◌then◌else◌, List, [], ◌∷◌, Option, Some, None}
use Rattle.index_maps.specs.declared.interval.Interval.{Interval}
use Rattle.scene_model.specs.declared.port.PortDecl.{PortDecl}
use Rattle.scene_model.specs.Links.{width_fits, values_fit}
use Rattle.port_match.specs.declared.fault.LinkKind.{LinkKind}
use Rattle.port_match.specs.declared.fault.LinkKind.TheVariants.{Width, Unmapped}

-- the intervals without those in front that end at or below an index
abbrev pub from_end_above : ℕ → List Interval → List Interval
from_end_above index [] = []
from_end_above index (interval ∷ intervals) = if nat_lt index interval.after then interval ∷ intervals else from_end_above index intervals

-- the first of the intervals holds all of another
abbrev pub is_in_first : List Interval → Interval → Bool
is_in_first [] inner = false
is_in_first (interval ∷ intervals) inner = nat_le interval.first inner.first && nat_le inner.after interval.after

-- the first fault of the indices that two ports map
abbrev pub index_fault : Option ℕ → PortDecl → PortDecl → Option LinkKind
index_fault width output input =
    if not (width_fits width output input) then Some Width
    else if not (values_fit input.kind output input) then Some Unmapped else None

-- Ascending intervals of which no two share an index.
use Rattle.std.specs.Prelude.{ℕ, Bool, true, ◌&&◌, nat_lt, nat_le, if◌then◌else◌, List, [], ◌∷◌}
use Rattle.std.specs.declared.cmp.Ordering.{Ordering}
use Rattle.std.specs.declared.cmp.Ordering.TheVariants.{Less, Equal, Greater}
use Rattle.index_maps.specs.Intervals.{is_some_interval}
use Rattle.index_maps.specs.declared.interval.Interval.{Interval}

-- what stands past the end of a list
abbrev pub no_interval : Interval
no_interval = record { first = 0; after = 0 }

-- none is empty, and each begins at or behind the end of the one before it, the first at or behind an index
abbrev pub are_cuts_from : ℕ → List Interval → Bool
are_cuts_from low [] = true
are_cuts_from low (interval ∷ intervals) = nat_le low interval.first && is_some_interval interval && are_cuts_from interval.after intervals

abbrev pub are_cuts : List Interval → Bool
are_cuts intervals = are_cuts_from 0 intervals

-- an index is below an interval, in it, or past it
abbrev pub side_of : ℕ → Interval → Ordering
side_of g interval = if nat_lt g interval.first then Less else (if nat_lt g interval.after then Equal else Greater)

-- where the last of them ends, or an index where there are none
abbrev pub cuts_end : ℕ → List Interval → ℕ
cuts_end low [] = low
cuts_end low (interval ∷ intervals) = cuts_end interval.after intervals

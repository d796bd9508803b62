pub mod Cuts
pub mod Indices
pub mod Intervals
pub mod Maps
pub mod Ranks
pub mod Repeats
pub mod WorkedMaps

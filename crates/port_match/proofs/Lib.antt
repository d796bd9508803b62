pub mod Intervals
pub mod Made

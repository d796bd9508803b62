pub mod Filling
pub mod LookUp
pub mod RouteLists
pub mod Runs

pub mod LawfulMaps
pub mod LawfulOptions
pub mod LawfulPorts
pub mod MessageMaps
pub mod OptionSteps
pub mod Places
pub mod Repeating

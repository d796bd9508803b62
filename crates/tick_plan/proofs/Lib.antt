pub mod Walks
pub mod Searching
pub mod Rounds
pub mod LeastLimits
pub mod SceneLimits
pub mod InTurn
pub mod Signed

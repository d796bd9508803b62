pub mod Blocks
pub mod Routing

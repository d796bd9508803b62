pub mod OneRule
pub mod Plans
pub mod Turning

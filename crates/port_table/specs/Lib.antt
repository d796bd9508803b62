pub mod MapWords
pub mod Options
pub mod Ports
pub mod SmallTexts
pub mod Stated

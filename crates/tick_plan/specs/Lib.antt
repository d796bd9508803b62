pub mod Bounds
pub mod Heights
pub mod Faults
pub mod Room
pub mod Choices
pub mod Plans

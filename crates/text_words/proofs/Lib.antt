pub mod Cutting
pub mod Digits
pub mod Options
pub mod Results
pub mod Turns

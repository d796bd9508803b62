pub mod Numbers
pub mod InTurn
pub mod OneWord
pub mod Options
pub mod Parts
pub mod Words

pub mod Finished
pub mod Ledgers
pub mod OrderTexts
pub mod OwnLinks
pub mod Pages

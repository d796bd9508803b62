pub mod Entering
pub mod Ledgers
pub mod Lists
pub mod Nothing
pub mod Orders

pub mod Exact
pub mod Faulty
pub mod Given
pub mod Lexed
pub mod Seen
pub mod Somes
pub mod Subcommand
pub mod Within

pub mod Faultless
pub mod Named
pub mod RuleForms
pub mod Spelling
pub mod Steps

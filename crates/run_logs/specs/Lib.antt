pub mod CsvLines
pub mod ItemFields
pub mod Merging
pub mod QuickLines

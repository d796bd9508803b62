pub mod Due
pub mod Inboxes
pub mod Holding
pub mod Arrivals
pub mod Words
pub mod Gathering
pub mod KeptSamples
pub mod Samples

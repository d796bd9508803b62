pub mod Covering
pub mod Links
pub mod Made
pub mod SmallScenes

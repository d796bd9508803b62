pub mod Apps
pub mod Faults
pub mod Scenes
pub mod Texts
pub mod SmallScenes
pub mod Setups
pub mod OwnTimes

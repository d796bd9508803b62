pub mod PlanLines
pub mod Input
pub mod SomeAnswers
pub mod Outcomes
pub mod GivenAnswers
pub mod Endings
pub mod LoadEndings
pub mod LiveScenes

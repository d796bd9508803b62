pub mod CycleTests
pub mod JoinedLines
pub mod SumSteps

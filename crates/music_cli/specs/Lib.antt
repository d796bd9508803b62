pub mod Words
pub mod PlanTexts
pub mod Answers
pub mod Clauses

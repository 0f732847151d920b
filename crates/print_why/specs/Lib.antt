-- What the program knows of the planner's answers, and what its first line claims.
pub mod Answers
pub mod Claims

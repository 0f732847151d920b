-- What the program knows of the boards that it opens and of the planner's answers; that its first line is true.
pub mod AnswerLaws
pub mod FirstLineLaws

-- What the model's laws say of the program's own boards. Assumes nothing.
pub mod ModelOfLaws
pub mod SettersLaws
pub mod SetMarksLaws
pub mod CallLaws
pub mod ChangeOfLaws
pub mod ContentsLaws
pub mod RunLaws
pub mod CreateLaws

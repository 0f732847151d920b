-- Laws of the commands, of valid boards, of the log and of boards that are the same; lists of commands computed.
-- Assumes nothing.
pub mod HeadsLaws
pub mod CommandLaws
pub mod ValidLaws
pub mod AnsweredLaws
pub mod NumberLaws
pub mod ChangeLaws
pub mod RestoredLaws
pub mod EffectiveLaws
pub mod LogLaws
pub mod SettersLaws
pub mod LogListsLaws
pub mod SinglesLaws
pub mod SameBoardLaws
pub mod WorkedCommands

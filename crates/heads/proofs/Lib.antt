-- Sets of heads and marks of two bits a head, put together and read again. Assumes nothing.
pub mod LoopLaws
pub mod RecordMarksLaws

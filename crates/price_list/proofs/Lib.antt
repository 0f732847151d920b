-- Laws of reading and writing price lists.
pub mod NumberLaws
pub mod LineLaws
pub mod RoomLaws
pub mod ReadLaws
pub mod WriteLaws
pub mod Learnt

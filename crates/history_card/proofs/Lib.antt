-- Laws that the proofs of reading and writing cite. Assumes nothing.
pub mod MarksLaws
pub mod RecordLaws
pub mod RecordsLaws
pub mod PutLaws
pub mod WriteLaws
pub mod BoardOfLaws
pub mod OpenLaws

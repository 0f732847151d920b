-- The documents' worked cases, corner cases of the definitions and which instances are valid, computed; laws of arcs,
-- arborescences, valid and same instances, paths, sets, cuts and matrices. Assumes nothing.
pub mod WorkedCases
pub mod CornerCases
pub mod WorkedValidity
pub mod ArcLaws
pub mod ValidLaws
pub mod SameLaws
pub mod LimitLaws
pub mod ArborescenceLaws
pub mod ReachLaws
pub mod SetBits
pub mod CutLaws
pub mod MatrixLaws
pub mod RefusalLaws

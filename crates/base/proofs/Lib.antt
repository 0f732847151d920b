-- Laws of tests, bounded tests and sums, and lists, and of the loops that fill them. Assumes nothing.
pub mod BoolLaws
pub mod BoundedLaws
pub mod ListLaws
pub mod JoinLaws
pub mod AllOfLaws
pub mod ElementLaws
pub mod CountingLaws
pub mod FillingLaws
pub mod FrontLaws
pub mod SumLaws
pub mod PartLaws
pub mod StoreLaws
pub mod OverwriteLaws
pub mod CondLaws
pub mod GridLaws
pub mod DigitLaws

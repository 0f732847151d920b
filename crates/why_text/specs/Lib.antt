-- The lines of the answer to why a link is closed, open or sure.
pub mod Grouped
pub mod Endings
pub mod Cut
pub mod Lines
pub mod Verdict

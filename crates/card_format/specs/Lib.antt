-- The rig card of document 01, with no program. Assumes nothing.
pub mod Widths
pub mod Card
pub mod Offsets

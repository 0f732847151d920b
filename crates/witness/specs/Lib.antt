-- The instances whose outcomes are the witnesses of an arc's state, and what pins another arc into its head. Assumes
-- nothing.
pub mod Witness

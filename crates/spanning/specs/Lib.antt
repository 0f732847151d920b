-- Passive runs (02, A11): undirected graphs, their spanning trees, outcome, states and replacement costs. A reader has
-- to believe the first six files; the others are for the proof.
pub mod Graph
pub mod Refusal
pub mod SpanningTrees
pub mod EdgeStates
pub mod ReplacementCosts
pub mod Shown
pub mod EdgeExchange
pub mod Crossing
pub mod Spans
pub mod Keys
pub mod Growth
pub mod Extremes
pub mod KeyTables

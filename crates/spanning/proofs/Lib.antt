-- Worked halls, computed, and what is proved about spanning trees. Assumes nothing.
pub mod WorkedHalls
pub mod JoinsLaws
pub mod ExchangeLaws
pub mod CrossingLaws
pub mod ReplacementLaws
pub mod GraphLaws
pub mod SpansLaws
pub mod KeyLaws
pub mod CostLaws
pub mod EdgeStateLaws
pub mod GrowthLaws
pub mod ExtremeLaws
pub mod KeyTableLaws
pub mod RootLaws
pub mod AnywhereLaws

-- The problem, as document 01 states it. A reader has to believe these files and nothing else about feed trees and link
-- states.
pub mod Limits
pub mod Refusals
pub mod RefusalNumbers
pub mod Marks
pub mod Instance
pub mod Arborescence
pub mod Candidates
pub mod States
pub mod StateNumbers
pub mod Cuts
pub mod Valid
pub mod Matrix
pub mod Same

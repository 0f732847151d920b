-- What the planning of passive runs computes, and what its call promises.
pub mod Tables
pub mod Replacement
pub mod Show
pub mod Steps
pub mod Planning

-- What the contracts cite.
pub mod ToCard
pub mod FromCard

-- What the contracts cite.
pub mod Judge

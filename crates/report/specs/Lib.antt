-- What is reported of a card.
pub mod Reports

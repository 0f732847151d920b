-- Laws of making cards of price lists, and price lists of cards.
pub mod ListedLaws
pub mod ToCardLaws
pub mod FromCardLaws
pub mod RoundTrips
pub mod ThereAndBack

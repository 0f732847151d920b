-- What the exported functions promise, each in the words of the call that it passes on. Assumes nothing.
pub mod Store
pub mod Cards
pub mod Sheets
pub mod Presses
pub mod PressLists
pub mod Words
pub mod Looking
pub mod Reasons
pub mod Plans
pub mod Prices
pub mod Rows
pub mod PassiveRuns

-- What functions work with that a reader of docs/CARD.md does not ask for.
pub mod Words
pub mod Calls

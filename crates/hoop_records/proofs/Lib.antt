-- Lemmas that more than one proof cites.
pub mod Events
pub mod Sums
pub mod Turns

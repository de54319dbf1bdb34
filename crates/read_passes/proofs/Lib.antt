-- Lemmas that more than one proof cites.
pub mod Turns
pub mod Loops
pub mod Bounds
pub mod Found

-- Lemmas that more than one proof cites.
pub mod Laws
pub mod Hops
pub mod Rows

-- Lemmas that more than one proof cites.
pub mod Parts

-- Lemmas that more than one proof cites.
pub mod Lines
pub mod Wide
pub mod Text
pub mod Whole

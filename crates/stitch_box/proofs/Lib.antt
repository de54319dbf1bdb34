-- Lemmas for the calls, and the theorems on two lists.
pub mod Backs
pub mod Two

-- Lemmas for the entries of threads.
pub mod Codes

-- Lemmas for the writers.
pub mod Bits
pub mod Parts
pub mod Writes

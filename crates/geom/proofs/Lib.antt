-- Lemmas for those who use bounds.
pub mod Extremes
pub mod Sizes

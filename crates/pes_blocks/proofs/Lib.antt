-- Lemmas for the matrix and for the blocks as a whole.
pub mod Exact
pub mod Values
pub mod Sums
pub mod Whole

-- Lemmas for the header and the block.
pub mod Bounds
pub mod Whole

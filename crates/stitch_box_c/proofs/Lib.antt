-- Lemmas of the proofs.
pub mod Placing

-- Lemmas of the proofs.
pub mod Turns
pub mod Told

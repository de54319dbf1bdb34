-- What the proofs cite.
pub mod Between
pub mod Places
pub mod Looked
pub mod Turns

-- What the proofs cite, here and in the crates above.
pub mod Parts
pub mod Places
pub mod Rows

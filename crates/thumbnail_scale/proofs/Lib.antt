-- What the proofs cite, here and in the crates above.
pub mod Floors
pub mod Joined

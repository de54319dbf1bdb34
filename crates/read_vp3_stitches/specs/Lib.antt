pub mod Steps
pub mod Tallies
pub mod Ways
pub mod Fills

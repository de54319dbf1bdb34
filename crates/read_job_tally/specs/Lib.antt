pub mod Tallies
pub mod Laws

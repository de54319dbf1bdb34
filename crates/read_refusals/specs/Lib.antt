pub mod Openings
pub mod Labels

pub mod Turns
pub mod Cutting

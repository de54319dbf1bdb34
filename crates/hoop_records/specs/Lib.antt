pub mod Looks
pub mod Rows

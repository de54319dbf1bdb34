pub mod Bytes
pub mod Steps

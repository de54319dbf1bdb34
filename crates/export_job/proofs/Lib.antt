pub mod Fields
pub mod Exports

pub mod Signature
pub mod Checked
pub mod Labels

pub mod Alike
pub mod States

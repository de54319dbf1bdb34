pub mod Told
pub mod Walks

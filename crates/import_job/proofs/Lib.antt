pub mod Walked
pub mod Contents
pub mod Rows
pub mod Filled
pub mod Imported

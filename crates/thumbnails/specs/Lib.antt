pub mod Blocks
pub mod Cells

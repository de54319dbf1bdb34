pub mod Blocks
pub mod Cells
pub mod Looked

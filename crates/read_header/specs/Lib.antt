pub mod Words
pub mod Lines
pub mod Colors
pub mod Spans

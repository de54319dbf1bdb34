pub mod Texts
pub mod Words
pub mod Scans
pub mod Lines
pub mod Colors
pub mod Spans

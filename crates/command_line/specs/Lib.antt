pub mod Names
pub mod Files
pub mod Numbers

-- Lemmas for whole files.
pub mod Files

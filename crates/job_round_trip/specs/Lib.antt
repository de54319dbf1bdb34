-- The round trip of a job: over the definitions, then about the calls.
pub mod Theorem
pub mod Calls

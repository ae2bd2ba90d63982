pub mod Once
pub mod References
pub mod Summaries
pub mod Walked

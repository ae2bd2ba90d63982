pub mod Lists
pub mod Runs
pub mod Sound
pub mod Places

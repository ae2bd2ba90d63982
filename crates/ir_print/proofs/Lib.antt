pub mod Written
pub mod Initials

pub mod Below
pub mod Divisions
pub mod Choices
pub mod Words

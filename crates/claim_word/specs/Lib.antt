pub mod Counting
pub mod Views
pub mod Rule
pub mod Passes

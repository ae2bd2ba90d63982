pub mod Measures
pub mod Reserved

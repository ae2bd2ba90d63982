pub mod Rows
pub mod Arithmetic
pub mod Operations
pub mod Comparisons
pub mod Addresses
pub mod Tabled

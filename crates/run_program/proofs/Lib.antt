pub mod Mapping
pub mod Causes
mod Rooting
mod Interpreting
pub mod Lists
mod Widths
pub mod Taking

pub mod Reading
pub mod Lists
pub mod Numbers
pub mod Simple
pub mod OneCommand
pub mod Arguments
pub mod Fetches
mod Cutting
mod Naming
pub mod OneList
mod Lining
pub mod InARow

mod Digits
mod SameKeys
mod Definitions
mod SameTypes
mod Sizes
pub mod Each
pub mod Failing
mod Firsts
mod Parts
mod KnownTypes
mod Expanding
mod Powers
mod Trimming
mod Names
pub mod Chains

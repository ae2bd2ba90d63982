pub mod Decided
pub mod Laws
pub mod Simplified
pub mod Staying
pub mod Tables

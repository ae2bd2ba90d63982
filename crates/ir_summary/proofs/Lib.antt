pub mod Onces
pub mod Walks

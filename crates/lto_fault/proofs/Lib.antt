pub mod Pushing
pub mod Escaping
pub mod Lines

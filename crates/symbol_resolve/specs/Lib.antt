pub mod Mentions
pub mod Prevailing
pub mod Clashes
pub mod Resolved
pub mod Listed

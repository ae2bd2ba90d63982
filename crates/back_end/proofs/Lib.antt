mod Ahead
pub mod Bettering
mod Finding
mod GoingOn
pub mod Interface
mod Keeping
mod Known
mod Naming
mod NoneTaken
pub mod Offered
pub mod Once
mod Ruling
mod Table
pub mod Turning
pub mod Walks

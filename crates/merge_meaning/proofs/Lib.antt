pub mod Standing
pub mod Names
pub mod Looked
pub mod Hosting
pub mod Constants
pub mod Unnamed
pub mod Improved
pub mod Emitted
pub mod Table
pub mod OneModule
pub mod Emission
pub mod Prevailing
pub mod Bodies
pub mod Once
pub mod Reordered
pub mod Own
pub mod Kept
pub mod Tabled
mod Scoped
mod Flows
pub mod Runs
pub mod Sounds
pub mod Composed
pub mod ByModule
pub mod References

mod Small
mod Weighing
mod Measured
pub mod Within
mod Levels

mod AllNeeded
mod Better
mod Kept
mod KeptPaths
mod KeptSound
mod Measures
pub mod Numbers
mod Reading
mod Tables
mod Working

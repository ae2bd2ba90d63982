pub mod Apart
mod Comparing
pub mod Counting
mod Later
mod Placing
mod RenamedParts
mod RenamedPaths
mod RenamedSound
mod Replacing
mod Squares
pub mod Stepping
pub mod Tally
pub mod Holding

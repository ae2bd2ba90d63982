pub mod Marking
pub mod Windows
pub mod Reading
pub mod Writing
pub mod Accesses
pub mod Holding
pub mod Growing
pub mod Ending
pub mod Filling
pub mod Comparing
pub mod Origins
mod Parts
mod Walks

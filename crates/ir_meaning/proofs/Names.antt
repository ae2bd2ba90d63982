pub mod Moved
pub mod Renamed
pub mod Kept
pub mod Emitted
pub mod Linked
pub mod Numbers

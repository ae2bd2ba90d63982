pub mod Slots
pub mod Blocks
pub mod Values
pub mod Inlined

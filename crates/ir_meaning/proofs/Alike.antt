pub mod Values
pub mod Pointers
pub mod Keeping
pub mod Effects
pub mod Answering
pub mod Stacks
pub mod Itself

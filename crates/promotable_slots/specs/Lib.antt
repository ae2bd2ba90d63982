pub mod Accesses
pub mod Slots
pub mod Uses

pub mod Machine
pub mod Facts
pub mod Sound
pub mod Views
pub mod Refusals

mod Answering
mod Doing
mod Slots
pub mod Sent
mod PoolSent

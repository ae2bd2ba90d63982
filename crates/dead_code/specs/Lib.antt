pub mod Closure
pub mod Laws
pub mod Least
pub mod Lists
pub mod Readers
pub mod Staying
pub mod Uses

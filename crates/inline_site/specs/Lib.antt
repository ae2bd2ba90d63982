pub mod Callers
pub mod Copies
pub mod Copying
pub mod Inlined
pub mod Laws
pub mod Sites

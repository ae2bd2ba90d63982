pub mod Making
pub mod Working

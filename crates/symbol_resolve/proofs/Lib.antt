pub mod Found
pub mod Names
pub mod Tabling
pub mod Told
pub mod Targets

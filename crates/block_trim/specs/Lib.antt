pub mod Laws
pub mod Places
pub mod Staying
pub mod Trimmed
pub mod MergeLaws
pub mod Merged
pub mod Unjoined
pub mod Working

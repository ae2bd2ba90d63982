pub mod Numberings
pub mod Onces
pub mod Keys
pub mod Scopes
pub mod Placings
pub mod Plains
pub mod Readings
pub mod Wholes
pub mod StableSorts
pub mod Growing
pub mod Walks
pub mod Starts
pub mod Lacking
mod Leasts
pub mod Sources
mod Starting
mod Told
pub mod Order
pub mod Twice
pub mod Marked
pub mod Filled
pub mod Decided

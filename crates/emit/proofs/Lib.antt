mod Listing
mod Linking
mod Keeping
mod Sorting
mod One
pub mod Members
mod Distinctions
mod Reordering
mod Closing
mod Settled
mod Wholes
mod Printed
mod Joined
mod Stripping
mod Chosen

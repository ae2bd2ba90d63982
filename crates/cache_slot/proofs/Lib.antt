pub mod Parts
mod Steps
pub mod Prefixes
mod HistoryWalks
mod Names
mod Decoding
mod Standing
mod Texts
mod Tabling
mod Loading
mod Saving
mod FilesKept
mod DiskKept
mod Shelving
mod Turning

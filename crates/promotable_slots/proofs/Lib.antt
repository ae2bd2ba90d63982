mod Finding
mod Kept

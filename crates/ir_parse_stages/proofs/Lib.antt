mod Gathering
mod Kept
mod Runs
mod Marked
mod Free
mod Searched

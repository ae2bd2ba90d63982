pub mod Cells
pub mod Edges
pub mod SourcesKept
pub mod Performing
pub mod Plain
pub mod Reading
pub mod Standing
pub mod Storing
pub mod Walking
mod LineActs
mod Passing
mod Entering
mod Lives
pub mod Widths
mod Positions
mod Blocks
mod Keeping
mod Acting
mod Jumping
mod Leaving
mod Calling
mod Opening
mod Waiting
mod Advancing
mod Placing
mod Begun
mod Hearing
mod Resolving
mod Telling
mod Exiting
mod Returning
mod Nexting
mod Extents
mod Runnable
mod Feeding
mod Traces
mod Turns
mod Endings

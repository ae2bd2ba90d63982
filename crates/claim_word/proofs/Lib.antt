pub mod Tallies
mod Views
mod Opening
mod Drawing
mod Numbering
mod Handing
mod Closing

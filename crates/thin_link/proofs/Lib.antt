mod Lists
mod Growing
mod Chained
mod Noting
mod Planned
mod Rising
pub mod Counted
pub mod Determined
pub mod Indices
pub mod Clashing
pub mod Lacking
pub mod Reports
pub mod Apart
mod Sorting
mod Tables
mod Listings
mod Parts

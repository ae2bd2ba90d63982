pub mod Emissions
pub mod Joins
pub mod Strips
pub mod Graphs
pub mod Chosen
pub mod Laws

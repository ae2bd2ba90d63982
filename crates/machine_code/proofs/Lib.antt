mod Zips
mod Rows
mod Standing
mod Tasking
mod Placing
mod Leaving
mod Blocking
mod Sounding
mod Meaning
mod Whole
pub mod Rooting
pub mod Lists
mod Telling
mod Keys
pub mod Naming
pub mod Tabling
mod Laying
mod Writing
mod Storing
pub mod Addressing
mod Agreeing
pub mod Beginning

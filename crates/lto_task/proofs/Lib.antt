pub mod Rising
mod Splitting
mod Numbers
mod Headings
mod Apart
mod Rises
pub mod Values
mod Agreeing
mod Declared

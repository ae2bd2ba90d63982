pub mod Layouts
pub mod NamesAgain
pub mod Flows
pub mod Symbols

pub mod Members
pub mod Places
pub mod Gathering
pub mod Found
mod Tabled
mod SymbolNames
mod NameSets
mod SortedValues
mod Declared
pub mod Declaring
pub mod Hosts
pub mod OnceNamed
pub mod ClosedUp
pub mod OfParts
mod OneTask

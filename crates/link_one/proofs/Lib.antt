mod Summed
mod Indexed
mod References
mod Lives
mod Finals
mod LiveRefining
mod Compiled
mod Known
mod LiveLinkable
pub mod Apart
mod Flowing
pub mod Refusals
pub mod Own
pub mod Zipping
pub mod Compiling
pub mod Printed
pub mod Among
pub mod Bettering
pub mod Knowing
pub mod Linkable
pub mod Refining
pub mod Once
pub mod Texts
pub mod Written
pub mod Unlinked
mod Named
mod Origins
mod Imported
mod Offering
mod Moved
mod SortedJoins
mod TaskBodies
mod TaskUnits
mod Stripped
mod Referables
mod TaskParts
mod UnitNames
mod LinkTasks
mod Preparing

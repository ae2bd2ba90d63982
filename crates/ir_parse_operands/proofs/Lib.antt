pub mod Grouping
pub mod Heads
pub mod Additions
pub mod Barred
pub mod ExtentLaws
pub mod Choices
pub mod Leaves
pub mod LeafRules
pub mod Levels
mod Members
pub mod RefusedKinds
pub mod ShapeRules
pub mod Subforms
pub mod TakenTokens
pub mod ValueRules
mod Counts
pub mod AlignmentRules
pub mod BehindCommas
pub mod AddressingRules
pub mod TerminatorReadings
pub mod TerminatorRules

pub mod InstructionRules
pub mod MemoryRules
pub mod PhiRules
pub mod BehindCommas
mod Additions
pub mod BlockRules
pub mod CallRules
mod Grouping
pub mod FirstWords
pub mod LineRules
mod Listed
pub mod Loops
pub mod Samples
pub mod SuccessiveRules
pub mod WrittenTypes
mod MeantTokens
mod OtherKinds
pub mod Successions
mod CallReadings
mod BlockHeads

pub mod BegunParts
pub mod Closes
pub mod ConstantRules
mod Grouping
pub mod InitialiserRules
pub mod Reversed
pub mod Scalars
pub mod TypeDefinitionRules
pub mod VariableRules

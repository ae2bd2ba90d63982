pub mod Attributes
pub mod AttributesAt
pub mod Targets
pub mod TargetsAt
pub mod FunctionHeads
pub mod FunctionHeadsAt

pub mod AttributeRules
pub mod Fronts
pub mod FunctionHeadRules
pub mod Layouts
pub mod TargetRules

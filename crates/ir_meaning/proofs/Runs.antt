pub mod Steps
pub mod Stacks
pub mod WholeRuns
pub mod Transitive

pub mod Brought
pub mod Tasks
pub mod Tables
pub mod ModuleTasks
pub mod TaskLaws

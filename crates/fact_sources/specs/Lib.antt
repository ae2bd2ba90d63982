pub mod Apart
pub mod Membership
pub mod Naming
pub mod Substitutions
pub mod Tables
pub mod Above
pub mod Places
pub mod AtPoints

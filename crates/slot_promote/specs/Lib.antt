pub mod Laws
pub mod Promoted
pub mod Tables
pub mod Values

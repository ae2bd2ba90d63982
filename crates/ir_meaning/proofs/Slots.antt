pub mod Contents
pub mod Promoted

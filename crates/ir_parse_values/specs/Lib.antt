pub mod Blocks
pub mod BodyLaws
pub mod Closing

pub mod MarkCode
pub mod MarkViews
pub mod Circles
pub mod Searching

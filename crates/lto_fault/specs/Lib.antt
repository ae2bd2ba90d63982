pub mod Statuses
pub mod Texts
pub mod Answers
pub mod Pushing
pub mod Parts
pub mod Returned

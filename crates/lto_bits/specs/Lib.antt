pub mod Word
pub mod Operation
pub mod Comparison
pub mod Cast
pub mod Laws

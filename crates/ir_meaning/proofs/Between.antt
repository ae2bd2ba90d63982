pub mod Points
pub mod Middle
pub mod Composed
pub mod LargerBounds
pub mod InARow

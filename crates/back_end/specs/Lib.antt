pub mod Inlinable
pub mod Laws
pub mod Made
pub mod Walk
pub mod WalkLaws
pub mod Walking

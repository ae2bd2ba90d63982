pub mod Row
pub mod Sets
pub mod Laws

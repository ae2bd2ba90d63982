pub mod Folding
pub mod Leading
pub mod Unequal
pub mod Walking
pub mod Widths

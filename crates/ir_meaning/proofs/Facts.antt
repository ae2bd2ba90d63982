pub mod Standing
pub mod Phis
pub mod Known

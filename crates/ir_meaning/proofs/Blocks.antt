pub mod Reshaped

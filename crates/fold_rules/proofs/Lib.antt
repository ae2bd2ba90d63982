mod Casts
mod Indices
mod Ones
mod Parts

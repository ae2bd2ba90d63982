mod Honesty
mod Rows

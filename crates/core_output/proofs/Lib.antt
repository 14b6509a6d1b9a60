pub mod Marks
pub mod Rows
pub mod Writing
mod Copies
mod Spreads

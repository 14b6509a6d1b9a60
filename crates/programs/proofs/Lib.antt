pub mod Printing
pub mod Writing

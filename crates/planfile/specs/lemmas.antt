pub mod Back
pub mod Few
pub mod Order
pub mod Scan
pub mod Writing

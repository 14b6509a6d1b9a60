pub mod Rows
pub mod Order
pub mod Marks
pub mod Counts

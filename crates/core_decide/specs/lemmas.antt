pub mod Decision
pub mod Marks
pub mod Accepted

pub mod Tables
pub mod Begun
pub mod Decision
pub mod Composed

pub mod Thin
pub mod Grown
pub mod Bases

pub mod Front
pub mod Bases
pub mod Begun
pub mod Decided

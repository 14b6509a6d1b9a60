pub mod Finding
pub mod Deciding
pub mod Outputs

pub mod Deciding
pub mod Outputs

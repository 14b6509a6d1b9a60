pub mod Outputs
pub mod Compared

pub mod Asked
pub mod Outputs
pub mod Rest

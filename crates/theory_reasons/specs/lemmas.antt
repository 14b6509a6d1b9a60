pub mod Runs
pub mod First
pub mod Search

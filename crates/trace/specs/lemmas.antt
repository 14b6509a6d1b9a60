pub mod Lists
pub mod Lines
pub mod Times
pub mod Scan
pub mod Tally
pub mod Passes

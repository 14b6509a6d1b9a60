pub mod Again
pub mod Bounds
pub mod Switches
pub mod Tables
pub mod Widths

pub mod Rows
pub mod Held
pub mod Seeing
pub mod Exact

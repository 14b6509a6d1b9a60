pub mod Exact
pub mod Places
pub mod Puts
pub mod Reading
pub mod Written

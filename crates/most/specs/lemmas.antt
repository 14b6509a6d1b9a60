pub mod Deciding
pub mod Finds

pub mod Spreads
pub mod Answer

mod Bits
mod Masked
mod Walk
pub mod Theorems
pub mod Passing

pub mod Back
pub mod FileLength
pub mod Puts
pub mod Runs
pub mod Shape
pub mod Slices
pub mod Arranged

pub mod Fronts
pub mod Judging
pub mod Planning
pub mod Reading
pub mod Writing

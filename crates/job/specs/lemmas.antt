pub mod Greatest
pub mod Within
pub mod Run
pub mod Spots

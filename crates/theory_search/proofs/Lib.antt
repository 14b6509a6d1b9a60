pub mod Theorems
pub mod First
pub mod Greedy
pub mod Meeting
pub mod Walk

pub mod Report
pub mod Theorems
pub mod Answer
pub mod lemmas

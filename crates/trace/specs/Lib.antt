pub mod Trace
pub mod Answer
pub mod Theorems
pub mod Back
pub mod Examples
pub mod lemmas

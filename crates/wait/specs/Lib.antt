pub mod Wait
pub mod Answer
pub mod Handed
pub mod Theorems
pub mod Examples
pub mod lemmas

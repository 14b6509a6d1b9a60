pub mod Answer
pub mod Handed
pub mod Theorems
pub mod lemmas

pub mod Job
pub mod Refusal
pub mod Input
pub mod Handed
pub mod Theorems
pub mod Uneven
pub mod lemmas

pub mod Statement
pub mod Own
pub mod Plan
pub mod Refusal
pub mod Promised
pub mod Theorems
pub mod Examples
pub mod lemmas

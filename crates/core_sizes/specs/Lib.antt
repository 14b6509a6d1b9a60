pub mod Table
pub mod Theorems
pub mod lemmas

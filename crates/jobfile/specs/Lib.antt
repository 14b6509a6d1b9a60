pub mod Writer
pub mod Theorems
pub mod Arranged
pub mod Mixed
pub mod lemmas

pub mod Passes
pub mod Held
pub mod Tables
pub mod Sentences
pub mod All

pub mod Answer
pub mod lemmas

pub mod Promise
pub mod lemmas

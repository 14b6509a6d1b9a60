pub mod Statement
pub mod Lines
pub mod Reading
pub mod Examples
pub mod lemmas

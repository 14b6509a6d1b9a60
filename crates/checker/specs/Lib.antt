pub mod Checked
pub mod Verdicts
pub mod lemmas

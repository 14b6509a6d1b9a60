pub mod Records
pub mod PlanFile
pub mod Calls
pub mod Split
pub mod Theorems
pub mod lemmas

pub mod Printed
pub mod Calls
pub mod Theorems
pub mod lemmas

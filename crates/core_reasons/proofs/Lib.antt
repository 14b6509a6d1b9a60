pub mod PassForward
pub mod PassBack
pub mod Both
pub mod SetTables
pub mod Short
pub mod Lines

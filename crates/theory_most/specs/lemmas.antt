pub mod Forward
pub mod InTables

pub mod Tables
pub mod Sets
pub mod Tests
pub mod Settling

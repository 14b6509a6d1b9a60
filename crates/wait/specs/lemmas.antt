pub mod Bases
pub mod Scan
pub mod First
pub mod Table

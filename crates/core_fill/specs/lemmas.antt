pub mod Filling
pub mod Left

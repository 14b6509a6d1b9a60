pub mod Asked
pub mod Afresh

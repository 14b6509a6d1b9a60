pub mod Fitting
pub mod Over
pub mod Stack

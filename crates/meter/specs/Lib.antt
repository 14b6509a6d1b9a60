pub mod Meter
pub mod Forecast
pub mod Harmonic
pub mod Calls
pub mod Edges
pub mod lemmas

pub mod Booking
pub mod Answer
pub mod Theorems
pub mod Restores
pub mod Examples
pub mod lemmas

pub mod Sums
pub mod Bases
pub mod Rooms
pub mod Trials
pub mod Settle
pub mod Decided

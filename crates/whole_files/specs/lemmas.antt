pub mod Answers
pub mod Marks
pub mod Plans
pub mod Rooms

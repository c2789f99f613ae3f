pub mod Records
pub mod Answers
pub mod Rooms
pub mod Halves

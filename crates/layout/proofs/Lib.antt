pub mod Outcomes
pub mod Steps
pub mod Decided
pub mod Written
pub mod Laid

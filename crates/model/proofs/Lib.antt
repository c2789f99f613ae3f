pub mod Order
pub mod Tables
mod Halves
mod Invariant
mod Round
pub mod Accepted
pub mod Steps
pub mod Stands
mod Again

mod Answered
mod Fronts
mod Steps
mod Histories
mod Standing
pub mod Spares

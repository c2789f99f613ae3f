mod Turns
mod Fills
mod WindowChecks
pub mod Parts
pub mod Spares

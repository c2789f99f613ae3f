pub mod Integers
pub mod Everywhere

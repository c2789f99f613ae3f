pub mod Models
pub mod Founding
pub mod Exchanges
pub mod Readings
pub mod Advances
pub mod Standing

mod CarriageChecks
mod Through
pub mod InOrder

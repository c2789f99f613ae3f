pub mod Plans
pub mod Sheets
pub mod Calls
pub mod Runs
pub mod Laws
pub mod States

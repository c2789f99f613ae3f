pub mod Starts
pub mod Calls
pub mod Journals
pub mod Kinds
pub mod Networks

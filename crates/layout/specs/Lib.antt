pub mod Faults
pub mod Layouts
pub mod Numbering
pub mod Numbers
pub mod Reading
pub mod Writing

pub mod Tables
pub mod Cells
pub mod TableLaw
pub mod Folds

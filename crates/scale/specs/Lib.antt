pub mod Algebra
pub mod Minutes
pub mod Grades
pub mod Presence
pub mod MinutesLaw
pub mod GradesLaw

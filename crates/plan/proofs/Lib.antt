mod Changes
mod Verdicts
mod Reached
mod Founded

pub mod Turns
pub mod Laws
pub mod Rows
pub mod Colours
pub mod Meaning
pub mod Answers
pub mod QuietRuns

pub mod Meaning
pub mod Pairs
pub mod Searches
pub mod Answers

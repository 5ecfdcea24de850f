pub mod Recurs
pub mod Pigeon
pub mod Periods
pub mod Runs
pub mod Repeats
pub mod Seeking

pub mod Looks
pub mod Spans

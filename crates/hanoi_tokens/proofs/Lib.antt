pub mod Moves
pub mod Tokens
pub mod Numbers
pub mod Names

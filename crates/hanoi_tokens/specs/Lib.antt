pub mod Moves
pub mod Tokens

pub mod NextRoot
pub mod Positions

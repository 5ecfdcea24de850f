pub mod Marks
pub mod Levels
pub mod Turning
pub mod Losing
pub mod Held
pub mod Fates
pub mod Turns

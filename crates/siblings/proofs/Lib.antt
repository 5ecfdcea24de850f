pub mod Positions
pub mod Carrying
pub mod Passing
pub mod NextRoot

pub mod Components
pub mod Covered
pub mod Finding

pub mod Names
pub mod Header

pub mod Legal
pub mod Questions
pub mod Commands
pub mod Plain

pub mod Components
pub mod Finding

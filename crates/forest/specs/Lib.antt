pub mod Forest
pub mod Laws
pub mod Numbering
pub mod Subtrees

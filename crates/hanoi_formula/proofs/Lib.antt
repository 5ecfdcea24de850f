pub mod Marks
pub mod Operands
pub mod Events
pub mod Formulas

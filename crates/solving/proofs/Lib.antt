pub mod Winners
pub mod Bridge
pub mod OwnersLaws
pub mod SolveLaws
pub mod Parts

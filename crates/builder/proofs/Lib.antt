pub mod StageLaws
pub mod TranslateLaws

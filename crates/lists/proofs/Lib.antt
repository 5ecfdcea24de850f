pub mod Bools
pub mod Numbers
pub mod Lists
pub mod AnyAll
pub mod Filters
pub mod Distinct
pub mod Least
pub mod Extremes

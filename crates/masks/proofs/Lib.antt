pub mod Bits
pub mod Members
pub mod MaskOf
pub mod SetOf
pub mod Submasks
pub mod Subsets
pub mod LowestMember

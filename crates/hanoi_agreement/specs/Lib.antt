pub mod Agreement
pub mod TextCalls
pub mod TextDemand3
pub mod Instances

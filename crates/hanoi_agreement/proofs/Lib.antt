pub mod PolicyOf
pub mod Legal
pub mod Recurring
pub mod Agreement
pub mod TextCalls
pub mod Texts
pub mod TextDemand3
pub mod Instances

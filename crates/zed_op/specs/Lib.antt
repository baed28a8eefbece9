pub mod Fit
pub mod Growth
pub mod Names
pub mod Set
pub mod SetLaws
pub mod Sizes
pub mod Verdict

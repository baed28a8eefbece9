pub mod ByNumber
pub mod Fields
pub mod Fresh
pub mod Headline
pub mod Limits
pub mod Warnings
pub mod World

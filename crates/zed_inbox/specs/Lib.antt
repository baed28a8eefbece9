pub mod Kept
pub mod Waiting

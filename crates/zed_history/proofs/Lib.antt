pub mod Clashing
pub mod Lookups
pub mod Opened
pub mod Runs
pub mod Spots
pub mod Times
pub mod Walks

pub mod Arrivals
pub mod ByName
pub mod Fields
pub mod Stats

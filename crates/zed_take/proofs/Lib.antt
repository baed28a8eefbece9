pub mod Deliveries
pub mod Limits
pub mod Refused
pub mod Showing
pub mod Unwritten

pub mod Halfway
pub mod Holding
pub mod Listing
pub mod Order
pub mod Stamped
pub mod Taking
pub mod Whole

pub mod Laws
pub mod Overridden
pub mod Readings
pub mod Sides

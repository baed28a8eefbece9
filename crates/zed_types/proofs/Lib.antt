pub mod ElementRows
pub mod Facts
pub mod Orderings
pub mod Passing
pub mod StampOrder
pub mod Steps
pub mod TableRows

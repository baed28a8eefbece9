pub mod Bases
pub mod Edits
pub mod Joins
pub mod Sought
pub mod Spots
pub mod Tallied
pub mod Tests

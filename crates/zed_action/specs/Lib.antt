pub mod Refusals
pub mod Deeds
pub mod Words

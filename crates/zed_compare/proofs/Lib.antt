pub mod Exits
pub mod Kept
pub mod Lent
pub mod Read
pub mod Silent
pub mod Sought
pub mod Tables

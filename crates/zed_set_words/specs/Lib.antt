pub mod Laws
pub mod Readers
pub mod Rows
pub mod Strings
pub mod Texts
pub mod Values

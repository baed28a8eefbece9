pub mod Changed
pub mod FieldWrites
pub mod Found
mod Numbers
pub mod Order
mod Places
mod Sorting

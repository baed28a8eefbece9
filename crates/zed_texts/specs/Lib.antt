pub mod ByName
pub mod Looks
pub mod Shows
pub mod Texts

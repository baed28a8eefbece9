pub mod Laws
pub mod Linted
pub mod Listed
pub mod Logged

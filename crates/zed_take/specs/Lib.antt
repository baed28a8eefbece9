pub mod Laws
pub mod Others
pub mod Refusals
pub mod Taken

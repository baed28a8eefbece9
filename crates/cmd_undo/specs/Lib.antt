pub mod Declining
pub mod Laws
pub mod Stages
pub mod Undoing

pub mod Commands
pub mod Grammar
pub mod Laws
pub mod Undone
pub mod Version

pub mod Escaping
pub mod Programs
pub mod Boards
pub mod Page
pub mod Told
pub mod Laws

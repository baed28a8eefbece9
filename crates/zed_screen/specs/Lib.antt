pub mod Picture
pub mod Panel
pub mod Frames
pub mod Laws

pub mod Places
pub mod Answered
pub mod Given
pub mod Gained

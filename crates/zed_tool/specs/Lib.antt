pub mod Answers
pub mod Calm
pub mod Commands
pub mod Driving
pub mod Lines
pub mod Outcome
pub mod Taking

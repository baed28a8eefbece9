pub mod Ends
pub mod Shown
pub mod Steps
pub mod TakenBack
pub mod UndoSteps

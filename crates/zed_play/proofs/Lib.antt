pub mod Chains
pub mod Front
pub mod Games
pub mod Keeping
pub mod Numbering
pub mod Uniqueness
pub mod StepThere
pub mod Refusing
mod Carrying
mod Passages

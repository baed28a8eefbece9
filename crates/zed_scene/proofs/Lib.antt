pub mod Pushing
pub mod Reach
pub mod FlagLemmas
pub mod Following

pub mod Ends
mod Standing
mod Told

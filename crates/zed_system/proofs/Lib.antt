mod Compared
mod Covered
mod Files
mod Gathered
mod Going
mod Names
mod Steps

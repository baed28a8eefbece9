mod Alike
pub mod Firsts
mod NamedTexts
mod Numbered
mod Shown
pub mod Sought
mod TextsAlike

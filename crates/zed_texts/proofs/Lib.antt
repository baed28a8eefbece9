pub mod Answered
pub mod Looks
pub mod TextElements
pub mod TextNames
pub mod TextsShown
pub mod TextsTake
pub mod WorldTexts

pub mod Triples
pub mod Greedy
pub mod Front
pub mod Filling
pub mod Tiles

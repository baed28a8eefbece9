pub mod FitParts
pub mod RealSizes
pub mod SetLaws
pub mod Sets
